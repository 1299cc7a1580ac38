-- What a topology is to the lines that it was read from.
use Rattle.std.specs.Prelude.{List, Ok, Err, vec_items, Result}
use Rattle.model.specs.Halls.{Hall, Sound}
use Rattle.telling.specs.declared.fault.Fault.{Fault}
use Rattle.telling.specs.declared.fault.Fault.TheVariants.{OutOfMemory, Refused}
use Rattle.topology.specs.declared.fault.Refused.{Refused as Wrong}
use Rattle.topology.specs.declared.hall.Topology.{Topology}
use Rattle.topology.specs.declared.lines.Line.{Line}
use Rattle.topology.specs.Lamps.{hall_in}
use Rattle.topology.specs.Files.{Describes, Breaks}

abbrev pub hall_of : Topology → Hall
hall_of t = hall_in t.most (vec_items t.sites)

-- a topology is that of the lines, and lines are refused only if no sound hall is; for want of memory there is neither
abbrev pub ReadAs : List Line → Result Topology (Fault Wrong) → Type 0
ReadAs lines (Ok t) = Describes lines (hall_of t)
ReadAs lines (Err OutOfMemory) = Unit {0}
ReadAs lines (Err (Refused r)) = Breaks lines

-- every topology is a sound hall
abbrev pub AcceptedIsSound : Type 0
AcceptedIsSound = (t : Topology) → Sound (hall_of t)
