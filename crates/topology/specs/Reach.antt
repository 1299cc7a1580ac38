-- Which lamps are reached from the first one.
use Rattle.std.specs.Prelude.{◌≡◌, ℕ, ◌<◌, Bool, true, false, cond, not, ◌&&◌, List, length, MatchBool, sum_by, slice_index_or, slice_set}
use Rattle.protocol.specs.declared.facts.Site.{Site}
use Rattle.protocol.specs.Rows.{places_of}
use Rattle.model.specs.Halls.{Hall, Way, WiredBothWays, HangTogether}
use Rattle.model.specs.Assignment.{any_of}
use Rattle.topology.specs.Lamps.{hall_in}

-- is the lamp at a place reached
abbrev pub is_reached : List Bool → ℕ → Bool
is_reached reached place = slice_index_or reached place false

-- is a neighbour of a lamp reached
abbrev pub touches : Site → List Bool → Bool
touches site reached = any_of (is_reached reached) (places_of site)

-- is the lamp at a place to be reached next: a neighbour is reached, and it is not
abbrev pub is_next : List Bool → Site → ℕ → Bool
is_next reached site place = not (is_reached reached place) && touches site reached

-- with the lamp at a place, where that is next
abbrev pub with_next : List Bool → ℕ → Bool → List Bool
with_next reached place next = cond next (slice_set reached place true) reached

-- each lamp that is reached can be reached: there is a way to it from the first lamp
abbrev pub Reachable : Hall → List Bool → Type 0
Reachable h reached = (i : ℕ) → is_reached reached i ≡ true → (n : ℕ) × Way h 0 i n

-- none of the first n lamps is next
abbrev pub NoneNext : List Site → List Bool → ℕ → Type 0
NoneNext sites reached n = (i : ℕ) (d : Site) → i < n → is_next reached (slice_index_or sites i d) i ≡ false

-- how many lamps are not reached
abbrev pub unreached : List Bool → ℕ
unreached reached = sum_by (λ b. cond b 0 1) reached

-- what one pass over the first n lamps comes to
pub record Spread (sites : List Site) (n : ℕ) (before after : List Bool) (grew : Bool) : Type 0 where
  pub long : length after ≡ length before
  pub kept : (i : ℕ) → is_reached before i ≡ true → is_reached after i ≡ true
  pub ways : (most : ℕ) → WiredBothWays (hall_in most sites) → Reachable (hall_in most sites) before → Reachable (hall_in most sites) after
  pub settled : grew ≡ false → (after ≡ before) × NoneNext sites after n
  pub fewer : grew ≡ true → unreached after < unreached before

-- the answer whether the lamps hang together, whatever the most that the hall may have
abbrev pub WhetherJoined : List Site → Bool → Type 0
WhetherJoined sites all = (most : ℕ) → MatchBool all (HangTogether (hall_in most sites)) (HangTogether (hall_in most sites) → ⊥)
