use Rattle.topology.specs.Reach.{Spread}
use Rattle.topology.proofs.reach.spread.Given as goal

-- what the pass came to so far
abbrev pub invariant-loop-place : goal.invariant-loop-place
invariant-loop-place l = Spread l.sites l.place l.initial.reached l.reached l.grew
