use Rattle.std.proofs.Common.{◌≡◌, length, take}
use Rattle.network.specs.Sequence.{after, numbers_drawn}
use Rattle.network.proofs.draws.Draws.numbers.Given as goal

abbrev pub invariant-loop-number : goal.invariant-loop-number
invariant-loop-number g l =
    (take l.number-index l.number-items ≡ numbers_drawn l.number-index l.initial.self.state) × (l.self.state ≡ after l.number-index l.initial.self.state) × (length l.number-items ≡ g.row.N)
