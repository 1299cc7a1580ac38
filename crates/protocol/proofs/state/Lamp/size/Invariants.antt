use Rattle.std.proofs.Common.{◌≡◌, take}
use Rattle.protocol.specs.Rows.{remembered}
use Rattle.protocol.specs.Rules.{size_of}
use Rattle.protocol.proofs.state.Lamp.size.Given as goal

abbrev pub invariant-loop-said : goal.invariant-loop-said
invariant-loop-said l = l.size ≡ size_of l.self.site.own l.best (take l.said-index (remembered l.self))
