use Rattle.std.proofs.Common.{take}
use Rattle.topology.specs.Reading.{hall_of}
use Rattle.model.specs.Nets.{ran}
use Rattle.network.specs.Turns.{Turns}
use Rattle.network.proofs.lent.Lent.run.Given as goal

abbrev pub invariant-loop-doing : goal.invariant-loop-doing
invariant-loop-doing l = Turns l.initial.self l.self (ran (hall_of l.initial.self.hall.now) (take l.doing-index l.doings))
