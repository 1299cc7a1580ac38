use Rattle.std.proofs.Common.{take}
use Rattle.network.specs.Parts.{Memories}
use Rattle.network.specs.Effects.{filled}
use Rattle.network.specs.Turns.{TurnsDrawn}
use Rattle.network.proofs.lent.Lent.fill_memories.Given as goal

abbrev pub invariant-loop-doing : goal.invariant-loop-doing
invariant-loop-doing l =
    TurnsDrawn l.initial.self l.self l.initial.draws.state l.draws.state (filled Memories (take l.doing-index l.doings))
