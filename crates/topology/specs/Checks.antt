-- What is looked at in the lines of a hall file, one thing after the other.
use Rattle.std.specs.Prelude.{◌≡◌, ℕ, ◌-◌, ◌<◌, ◌≤◌, true, false, List, length, Some, ◌≢◌, slice_index, slice_index_or}
use Rattle.std.specs.List.{All}
use Rattle.protocol.specs.declared.facts.Own.{Own}
use Rattle.protocol.specs.declared.facts.Site.{Site}
use Rattle.protocol.specs.Rows.{places_of}
use Rattle.protocol.specs.Wiring.{is_sound}
use Rattle.topology.specs.declared.lines.Line.{Line}
use Rattle.topology.specs.declared.lines.Line.TheVariants.{Most, Lamp, Wire, Unknown}
use Rattle.topology.specs.Files.{fits, Fit, most_in, names_in, places_at}

-- the i-th line is the first behind the first one that does not fit
pub record Misfit (lines : List Line) (i : ℕ) : Type 0 where
  pub behind : 1 ≤ i
  pub there : i < length lines
  pub before : Fit lines i
  pub wrong : (d : Line) → fits (slice_index_or lines (i - 1) d) (slice_index_or lines i d) ≡ false

-- the lines stand in order, and the most lamps are 1 to 1,024
pub record Headed (lines : List Line) (most : ℕ) : Type 0 where
  pub first : most_in lines ≡ Some most
  pub fit : Fit lines (length lines)
  pub least : 1 ≤ most
  pub bound : most ≤ 1024

-- the first n names are different
abbrev pub Apart : List ℕ → ℕ → Type 0
Apart names n = (a b : ℕ) → (a < b) × (b < n) × (slice_index names a ≡ slice_index names b) → ⊥

-- the i-th name is the first that stood before
pub record Again (names : List ℕ) (i : ℕ) : Type 0 where
  pub there : i < length names
  pub first : Apart names i
  pub before : (a : ℕ) × (a < i) × (slice_index names a ≡ slice_index names i)

-- 1 to `most` lamps, with different names
pub record Named (most : ℕ) (names : List ℕ) : Type 0 where
  pub some : 1 ≤ length names
  pub few : length names ≤ most
  pub apart : Apart names (length names)

-- a wire has its ends at two places below the count
abbrev pub RightEnds : ℕ → Line → Type 0
RightEnds count (Most m) = Unit {0}
RightEnds count (Lamp n) = Unit {0}
RightEnds count (Wire a b) = (a < count) × (b < count) × (a ≢ b)
RightEnds count Unknown = Unit {0}

-- the lines stand in order, these are the most lamps and their names, and all but the lamps' own wires is right
pub record Checked (lines : List Line) (most : ℕ) (names : List ℕ) : Type 0 where
  pub headed : Headed lines most
  pub all : names ≡ names_in lines
  pub named : Named most names
  pub right : All (RightEnds (length names)) lines

-- what the lamp at a place knows of itself
abbrev pub own_at : ℕ → List ℕ → ℕ → Own
own_at most names i = record { most = most; place = i; name = slice_index names i }

-- each lamp's own numbers and wires are as a lamp asks
abbrev pub AllSound : ℕ → List ℕ → List Line → Type 0
AllSound most names lines = (i : ℕ) → i < length names → is_sound (own_at most names i) (places_at i lines) ≡ true

-- a site is that of a lamp with these numbers
abbrev pub OfLamp : Own → List Line → Site → Type 0
OfLamp own lines site = (site.own ≡ own) × (places_of site ≡ places_at own.place lines)

-- the first n sites are those of the lamps
abbrev pub Stand : ℕ → List ℕ → List Line → List Site → ℕ → Type 0
Stand most names lines sites n = (i : ℕ) (d : Site) → i < n → OfLamp (own_at most names i) lines (slice_index_or sites i d)

-- all sites
pub record Stands (most : ℕ) (names : List ℕ) (lines : List Line) (sites : List Site) : Type 0 where
  pub count : length sites ≡ length names
  pub each : Stand most names lines sites (length names)
