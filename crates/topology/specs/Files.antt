-- What the lines of a hall file say.
use Rattle.std.specs.Prelude.{◌≡◌, ℕ, ◌-◌, ◌<◌, ◌≤◌, Bool, true, false, cond, not, List, [], ◌∷◌, ◌++◌, length, Some, None, Option, ◌==◌, slice_index, slice_index_or}
use Rattle.std.specs.List.{flat_map, All}
use Rattle.places.specs.Places.{rising_of}
use Rattle.model.specs.Halls.{Hall, Sound}
use Rattle.topology.specs.declared.lines.Line.{Line}
use Rattle.topology.specs.declared.lines.Line.TheVariants.{Most, Lamp, Wire, Unknown}

-- as many lamps as the hall may have, by the first line
abbrev pub most_in : List Line → Option ℕ
most_in [] = None
most_in (Most m ∷ ls) = Some m
most_in (Lamp n ∷ ls) = None
most_in (Wire a b ∷ ls) = None
most_in (Unknown ∷ ls) = None

abbrev pub is_wire : Line → Bool
is_wire (Most m) = false
is_wire (Lamp n) = false
is_wire (Wire a b) = true
is_wire Unknown = false

-- does a line fit behind the one before it: a lamp behind anything but a wire, and a wire behind anything
abbrev pub fits : Line → Line → Bool
fits before (Most m) = false
fits before (Lamp n) = not (is_wire before)
fits before (Wire a b) = true
fits before Unknown = false

-- of the first n lines each but the first fits behind the one before it
abbrev pub Fit : List Line → ℕ → Type 0
Fit lines n = (k : ℕ) (d : Line) → 1 ≤ k → k < n → fits (slice_index_or lines (k - 1) d) (slice_index_or lines k d) ≡ true

-- the names of the lamps, in order of places
abbrev pub name_of : Line → List ℕ
name_of (Most m) = []
name_of (Lamp n) = n ∷ []
name_of (Wire a b) = []
name_of Unknown = []

abbrev pub names_in : List Line → List ℕ
names_in lines = flat_map name_of lines

-- the other end of a wire that has an end at place i
abbrev pub other_end : ℕ → ℕ → ℕ → List ℕ
other_end i a b = cond (a == i) (b ∷ []) []

-- the places at the other ends of all wires of the lamp at place i, in the order of the lines
abbrev pub ends_of : ℕ → Line → List ℕ
ends_of i (Most m) = []
ends_of i (Lamp n) = []
ends_of i (Wire a b) = other_end i a b ++ other_end i b a
ends_of i Unknown = []

abbrev pub ends_at : ℕ → List Line → List ℕ
ends_at i lines = flat_map (ends_of i) lines

-- the places that it is wired to: a wire that is named again, either way round, is the same wire
abbrev pub places_at : ℕ → List Line → List ℕ
places_at i lines = rising_of (ends_at i lines)

-- both ends of a wire are places below the count
abbrev pub EndsBelow : ℕ → Line → Type 0
EndsBelow count (Most m) = Unit {0}
EndsBelow count (Lamp n) = Unit {0}
EndsBelow count (Wire a b) = (a < count) × (b < count)
EndsBelow count Unknown = Unit {0}

-- lines describe a hall: first the line of `most`, then the lamps, then the wires; it has just that `most`, those names in that order and those wires,
-- none of which leads to a place beyond
pub record Describes (lines : List Line) (h : Hall) : Type 0 where
  pub most : most_in lines ≡ Some h.most
  pub fit : Fit lines (length lines)
  pub count : h.count ≡ length (names_in lines)
  pub names : (i : ℕ) → i < h.count → h.name i ≡ slice_index (names_in lines) i
  pub wires : (i : ℕ) → i < h.count → h.neighbours i ≡ places_at i lines
  pub ends : All (EndsBelow h.count) lines

-- lines that break a rule: no hall that they describe is sound
abbrev pub Breaks : List Line → Type 0
Breaks lines = (h : Hall) → Describes lines h → Sound h → ⊥
