use Rattle.std.proofs.Common.{take}
use Rattle.network.specs.Slots.{told_by}
use Rattle.network.specs.Turns.{Turns}
use Rattle.network.proofs.Works.{part_told}
use Rattle.network.proofs.lent.Lent.tell.Given as goal

-- the wires so far have their tellings
abbrev pub invariant-loop-k : goal.invariant-loop-k
invariant-loop-k l = Turns l.initial.self l.self (part_told l.place (take l.k l.to-items) (told_by l.site l.work))
