-- Places that are named in any order, once or more often.
use Rattle.std.specs.Prelude.{◌≡◌, ℕ, ◌+◌, ◌≤◌, cond, List, [], ◌∷◌, fold, ◌==◌, nat_lt}
use Rattle.protocol.specs.Rows.{has_wire}

-- a place with rising ones: put in where it belongs, unless it is there
unfoldable pub with_place : List ℕ → ℕ → List ℕ
with_place [] place = place ∷ []
with_place (p ∷ ps) place = cond (nat_lt place p) (place ∷ p ∷ ps) (cond (place == p) (p ∷ ps) (p ∷ with_place ps place))

-- the places that are named, by rising place, each once
abbrev pub rising_of : List ℕ → List ℕ
rising_of named = fold with_place [] named

-- the first is at least `low`, and each is above the one before
unfoldable pub RiseFrom : ℕ → List ℕ → Type 0
RiseFrom low [] = Unit {0}
RiseFrom low (p ∷ ps) = (low ≤ p) × RiseFrom (p + 1) ps

-- whatever is named, the places made of it rise, and are those that were named and no others
abbrev pub RisingAndWhole : Type 0
RisingAndWhole = (named : List ℕ) → RiseFrom 0 (rising_of named) × ((place : ℕ) → has_wire (rising_of named) place ≡ has_wire named place)
