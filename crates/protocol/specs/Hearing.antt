-- What hearing a frame comes to.
use Rattle.std.specs.Prelude.{◌≡◌, ℕ, Bool, true, false, cond, List, [], ◌∷◌, Ok, Err, OnErr, Result, ◌==◌}
use Rattle.telling.specs.declared.Telling.{Telling}
use Rattle.telling.specs.declared.frame.Reading.{Reading}
use Rattle.telling.specs.declared.frame.Reading.TheVariants.{Told, Noise}
use Rattle.telling.specs.declared.refusal.Refusal.{Refusal}
use Rattle.telling.specs.declared.refusal.Refusal.TheVariants.{Unreadable, NoWire}
use Rattle.protocol.specs.declared.state.Lamp.{Lamp}
use Rattle.protocol.specs.Rows.{Neighbour, places_of, has_wire, remembered}

-- a row in which the neighbour at a place said something else, and every other is as it was
unfoldable pub replaced : ℕ → Telling → List Neighbour → List Neighbour
replaced place t [] = []
replaced place t (n ∷ ns) = cond (n.place == place) (record { place = n.place; telling = t } ∷ ns) (n ∷ replaced place t ns)

-- what is remembered after hearing: noise changes nothing
abbrev pub after_hearing : Reading → ℕ → List Neighbour → List Neighbour
after_hearing (Told t) place row = replaced place t row
after_hearing Noise place row = row

-- how hearing is refused, by whether the place is wired: noise by 1, a telling from a place with no wire by 2
abbrev pub hearing_of : Reading → Bool → Result (Unit {0}) Refusal
hearing_of (Told t) true = Ok tt
hearing_of (Told t) false = Err NoWire
hearing_of Noise wired = Err Unreadable

-- how a lamp refuses what comes from a place
abbrev pub refused_by : Lamp → ℕ → Reading → Result (Unit {0}) Refusal
refused_by l place what = hearing_of what (has_wire (places_of l.site) place)

-- a lamp after it has heard something from a place, and how that was refused: what was refused has changed nothing at all
pub record Heard (what : Reading) (place : ℕ) (before after : Lamp) (heard : Result (Unit {0}) Refusal) : Type 0 where
  pub site : after.site ≡ before.site
  pub last : after.last ≡ before.last
  pub row : remembered after ≡ after_hearing what place (remembered before)
  pub refused : heard ≡ refused_by before place what
  pub same : OnErr heard (after ≡ before)
