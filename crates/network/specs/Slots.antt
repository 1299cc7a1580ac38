-- Where what is said between two lamps stands: sixteen slots for each lamp, one for each of its wires, by rising place of the neighbour.
use Rattle.std.specs.Prelude.{◌≡◌, ℕ, ◌+◌, ◌*◌, ◌<◌, List, map, length, slice_index}
use Rattle.protocol.specs.declared.facts.Site.{Site}
use Rattle.protocol.specs.declared.state.Work.{Work}
use Rattle.protocol.specs.Rows.{Neighbour, row_of, places_of}
use Rattle.protocol.specs.Rules.{telling_with}
use Rattle.model.specs.Halls.{Hall, own_of}

-- the k-th neighbour of lamp j
abbrev pub neighbour : Hall → ℕ → ℕ → ℕ
neighbour h j k = slice_index (h.neighbours j) k

-- the slot of lamp j's k-th wire
abbrev pub slot_of : ℕ → ℕ → ℕ
slot_of j k = 16 * j + k

-- s is the slot of what lamp j hears of i
pub record Slot (h : Hall) (j i s : ℕ) : Type 0 where
  pub lamp : j < h.count
  pub wire : ℕ
  pub there : wire < length (h.neighbours j)
  pub leads : neighbour h j wire ≡ i
  pub is : s ≡ slot_of j wire

-- s is the site of lamp i
pub record SiteOf (h : Hall) (i : ℕ) (s : Site) : Type 0 where
  pub lamp : i < h.count
  pub own : s.own ≡ own_of h i
  pub places : h.neighbours i ≡ places_of s

-- what a work puts on the wires of a site: to each neighbour, by rising place, its telling
abbrev pub told_by : Site → Work → List Neighbour
told_by s w = row_of (places_of s) (map (telling_with w.numbers) w.given)
