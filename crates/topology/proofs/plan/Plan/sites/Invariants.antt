use Rattle.std.proofs.Common.{◌≡◌, length, vec_items}
use Rattle.topology.specs.Checks.{Stand}
use Rattle.topology.proofs.plan.Plan.sites.Given as goal

abbrev pub invariant-loop-i : goal.invariant-loop-i
invariant-loop-i l = (length (vec_items l.sites) ≡ l.i) × Stand l.self.most l.self.names.now l.self.lines.now (vec_items l.sites) l.i
