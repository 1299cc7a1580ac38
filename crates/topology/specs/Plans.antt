-- No definition: that the facts of a plan have one proof at most, which its ghost field has to show, and shows from here alone.
use Rattle.std.specs.Prelude.{ℕ}
use Rattle.std.proofs.Props.{props}
use Rattle.topology.specs.declared.lines.Line.{Line}
use Rattle.topology.specs.declared.lines.Line.TheVariants.{Most, Lamp, Wire, Unknown}
use Rattle.topology.specs.Checks.{RightEnds}

pub RightEnds-prop : (count : ℕ) (line : Line) → IsProp (RightEnds count line)
RightEnds-prop count (Most m) = hlevel props
RightEnds-prop count (Lamp n) = hlevel props
RightEnds-prop count (Wire a b) = hlevel props
RightEnds-prop count Unknown = hlevel props

pub ruleset plan_props = (props, RightEnds-prop)
