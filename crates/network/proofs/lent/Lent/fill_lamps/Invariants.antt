use Rattle.std.proofs.Common.{take}
use Rattle.network.specs.Parts.{Lamps}
use Rattle.network.specs.Effects.{filled}
use Rattle.network.specs.Turns.{TurnsDrawn}
use Rattle.network.proofs.lent.Lent.fill_lamps.Given as goal

abbrev pub invariant-loop-doing : goal.invariant-loop-doing
invariant-loop-doing l =
    TurnsDrawn l.initial.self l.self l.initial.draws.state l.draws.state (filled Lamps (take l.doing-index l.doings))
