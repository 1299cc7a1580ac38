-- A lamp's neighbours, and what it remembers of each.
use Rattle.std.specs.Prelude.{◌≡◌, ℕ, ◌<◌, Bool, false, ◌||◌, List, [], ◌∷◌, take, ◌==◌, ◌≢◌, slice_index, slice_index_or}
use Rattle.telling.specs.declared.Telling.{Telling}
use Rattle.protocol.specs.declared.facts.Site.{Site}
use Rattle.protocol.specs.declared.state.Lamp.{Lamp}

-- a neighbour: its place, and a telling that was heard of it or is told to it
pub record Neighbour : Type 0 where
  pub place : ℕ
  pub telling : Telling

-- places and tellings, one beside the other
unfoldable pub row_of : List ℕ → List Telling → List Neighbour
row_of [] ts = []
row_of (p ∷ ps) [] = []
row_of (p ∷ ps) (t ∷ ts) = record { place = p; telling = t } ∷ row_of ps ts

-- the places that a lamp is wired to, by rising place
abbrev pub places_of : Site → List ℕ
places_of s = take s.wires s.places

-- is there a wire to a place
unfoldable pub has_wire : List ℕ → ℕ → Bool
has_wire [] place = false
has_wire (p ∷ ps) place = p == place || has_wire ps place

-- a lamp's first wire to a place is its k-th
pub record Wire (s : Site) (place k : ℕ) : Type 0 where
  pub there : k < s.wires
  pub leads : slice_index_or s.places k 0 ≡ place
  pub first : (j : ℕ) → j < k → slice_index s.places j ≢ place

-- none of a lamp's wires leads to a place
abbrev pub NoWireTo : Site → ℕ → Type 0
NoWireTo s place = (k : ℕ) → k < s.wires → slice_index s.places k ≢ place

-- a lamp's neighbours by rising place, each with the telling last heard of it
abbrev pub remembered : Lamp → List Neighbour
remembered l = row_of (places_of l.site) l.heard
