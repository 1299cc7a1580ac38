-- The arguments, by their words.
use Rattle.std.specs.Prelude.{◌≡◌, ℕ, cond, List, [], ◌∷◌, Some, None, Ok, Err, Option, Result}
use Rattle.telling.specs.declared.fault.Fault.{Fault}
use Rattle.telling.specs.declared.fault.Fault.TheVariants.{OutOfMemory, Refused}
use Rattle.telling.specs.declared.refusal.Refusal.{Refusal}
use Rattle.telling.specs.declared.refusal.Refusal.TheVariants.{Input}
use Rattle.text.specs.Decimal.{number_of}
use Rattle.text.specs.Hex.{with_first}
use Rattle.protocol.specs.declared.facts.Own.{Own}
use Rattle.protocol.specs.declared.facts.Site.{Site}
use Rattle.protocol.specs.Rows.{places_of}
use Rattle.protocol.specs.Wiring.{is_sound}
use Rattle.places.specs.Places.{rising_of}

-- the numbers that words write, where each writes one
unfoldable pub numbers_in : List (List ℕ) → Option (List ℕ)
numbers_in [] = Some []
numbers_in (word ∷ words) = with_first (number_of word) (numbers_in words)

-- a lamp's own numbers and its neighbours' places, where these are sound
abbrev pub if_sound : Own → List ℕ → Option (Own × List ℕ)
if_sound own places = cond (is_sound own places) (Some (own, places)) None

-- the site of numbers: as many lamps as there may be, a place, a name, and then the neighbours' places; none where they are fewer than three or not sound
abbrev pub site_from : List ℕ → Option (Own × List ℕ)
site_from [] = None
site_from (most ∷ []) = None
site_from (most ∷ place ∷ []) = None
site_from (most ∷ place ∷ name ∷ named) = if_sound (record { most = most; place = place; name = name }) (rising_of named)

-- the site of numbers, where these are there
abbrev pub site_in : Option (List ℕ) → Option (Own × List ℕ)
site_in None = None
site_in (Some numbers) = site_from numbers

-- the site that words name: none too where a word is no number
abbrev pub site_of : List (List ℕ) → Option (Own × List ℕ)
site_of words = site_in (numbers_in words)

-- what is answered where a site is told: that site, and refusal 4 where there is none; only for want of memory neither
abbrev pub SiteOrRefusal : Option (Own × List ℕ) → Result Site (Fault Refusal) → Type 0
SiteOrRefusal told (Ok site) = told ≡ Some (site.own, places_of site)
SiteOrRefusal told (Err OutOfMemory) = Unit {0}
SiteOrRefusal told (Err (Refused refusal)) = (refusal ≡ Input) × (told ≡ None)
