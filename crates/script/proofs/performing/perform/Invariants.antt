use Rattle.std.proofs.Common.{◌≡◌, true, take, vec_items}
use Rattle.topology.specs.Reading.{hall_of}
use Rattle.network.specs.Stands.{Becomes}
use Rattle.network.specs.Effects.{performed}
use Rattle.network.specs.Carried.{is_roomy}
use Rattle.script.proofs.performing.perform.Given as goal

-- the commands so far are carried out
abbrev pub invariant-loop-k : goal.invariant-loop-k
invariant-loop-k l =
    is_roomy (hall_of l.hall) l.initial.state ≡ true →
    Becomes (hall_of l.hall) l.initial.state l.state (performed (hall_of l.hall) (vec_items l.hall.sites) (take l.k l.script))
