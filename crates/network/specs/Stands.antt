-- The net that lent words stand for.
use Rattle.std.specs.Prelude.{◌≡◌, ℕ, ◌*◌, ◌<◌, List, length}
use Rattle.telling.specs.declared.Telling.{Telling}
use Rattle.telling.specs.declared.frame.Reading.{Reading}
use Rattle.protocol.specs.declared.state.Numbers.{Numbers}
use Rattle.model.specs.Halls.{Hall}
use Rattle.model.specs.Nets.{Net}
use Rattle.network.specs.declared.state.State.{State}
use Rattle.network.specs.Words.{telling_in, numbers_in, reading_in}
use Rattle.network.specs.Slots.{neighbour, slot_of}

-- there is room for the hall: sixteen slots of seven words for each lamp, for memories and for wires, a mark for each slot, and six words for each lamp
pub record Roomy (h : Hall) (s : State) : Type 0 where
  pub memories : length s.memories.now ≡ 112 * h.count
  pub wires : length s.wires.now ≡ 112 * h.count
  pub noise : length s.noise.now ≡ 16 * h.count
  pub lamps : length s.lamps.now ≡ 6 * h.count

-- words stand for the numbers of all lamps
abbrev pub LampsStand : Hall → List ℕ → (ℕ → Numbers) → Type 0
LampsStand h lamps lamp = (i : ℕ) → i < h.count → numbers_in lamps i ≡ lamp i

-- for what lies on all wires: in lamp j's k-th slot, what lies on the wire from its k-th neighbour
abbrev pub WiresStand : Hall → List ℕ → List ℕ → (ℕ → ℕ → Reading) → Type 0
WiresStand h wires noise line = (j k : ℕ) → j < h.count → k < length (h.neighbours j) → reading_in wires noise (slot_of j k) ≡ line (neighbour h j k) j

-- for all that is remembered: in lamp j's k-th slot, what it last heard of its k-th neighbour
abbrev pub MemoriesStand : Hall → List ℕ → (ℕ → ℕ → Telling) → Type 0
MemoriesStand h memories heard = (j k : ℕ) → j < h.count → k < length (h.neighbours j) → telling_in memories (slot_of j k) ≡ heard j (neighbour h j k)

-- the state stands for a net
pub record Stands (h : Hall) (s : State) (n : Net) : Type 0 where
  pub lamps : LampsStand h s.lamps.now n.lamp
  pub wires : WiresStand h s.wires.now s.noise.now n.line
  pub memories : MemoriesStand h s.memories.now n.heard

-- a state has become what a change makes of it: there is still room, and whatever net it stood for, it now stands for that net changed
pub record Becomes (h : Hall) (before after : State) (change : Net → Net) : Type 0 where
  pub room : Roomy h after
  pub stands : (n : Net) → Stands h before n → Stands h after (change n)

-- a state and the state of a sequence have become what a change of both makes of them
pub record BecomesDrawn (h : Hall) (before after : State) (s s' : ℕ) (change : ℕ × Net → ℕ × Net) : Type 0 where
  pub room : Roomy h after
  pub drawn : (n : Net) → Stands h before n → (s' ≡ (change (s, n)).0) × Stands h after (change (s, n)).1
