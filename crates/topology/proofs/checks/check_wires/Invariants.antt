use Rattle.std.proofs.Common.{◌<◌, slice_index_or, ℕ}
use Rattle.topology.specs.declared.lines.Line.{Line}
use Rattle.topology.specs.Checks.{RightEnds}
use Rattle.topology.proofs.checks.check_wires.Given as goal

abbrev pub invariant-loop-i : goal.invariant-loop-i
invariant-loop-i l = (k : ℕ) (d : Line) → k < l.i-counter → RightEnds l.count (slice_index_or l.lines k d)
