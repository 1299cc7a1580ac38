-- What becomes of a hall's lent words, by the net that they stand for.
use Rattle.std.specs.Prelude.{◌≡◌, ℕ}
use Rattle.model.specs.Nets.{Net}
use Rattle.topology.specs.Reading.{hall_of}
use Rattle.network.specs.declared.lent.Lent.{Lent}
use Rattle.network.specs.declared.state.State.{State}
use Rattle.network.specs.Stands.{Becomes, BecomesDrawn}

-- the state in words that are lent for a hall
abbrev pub state_in : Lent → State
state_in l = record { memories = l.memories; wires = l.wires; noise = l.noise; lamps = l.lamps }

-- they are the same words still, for the same hall
pub record StaysLent (before after : Lent) : Type 0 where
  pub hall : after.hall ≡ before.hall
  pub memories : after.memories.ghost_name ≡ before.memories.ghost_name
  pub wires : after.wires.ghost_name ≡ before.wires.ghost_name
  pub noise : after.noise.ghost_name ≡ before.noise.ghost_name
  pub lamps : after.lamps.ghost_name ≡ before.lamps.ghost_name

-- the words have become what a change of the net makes of them
pub record Turns (before after : Lent) (change : Net → Net) : Type 0 where
  pub lent : StaysLent before after
  pub becomes : Becomes (hall_of before.hall.now) (state_in before) (state_in after) change

-- they and the state of a sequence have become what a change of both makes of them
pub record TurnsDrawn (before after : Lent) (s s' : ℕ) (change : ℕ × Net → ℕ × Net) : Type 0 where
  pub lent : StaysLent before after
  pub drawn : BecomesDrawn (hall_of before.hall.now) (state_in before) (state_in after) s s' change
