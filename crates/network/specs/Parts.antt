-- The parts of a state, which are filled one after the other.
pub data Part : Type 0 where
  Memories : Part
  Wires : Part
  Lamps : Part
