-- The lines of the format, by their words.
use Rattle.std.specs.Prelude.{ℕ, cond, List, [], ◌∷◌, Some, None, vec_items, codes, Option}
use Rattle.std.specs.Option.{option_map}
use Rattle.std.specs.Str.{bytes_eq}
use Rattle.text.specs.Decimal.{number_of}
use Rattle.text.specs.Hex.{bytes_of}
use Rattle.console.specs.declared.orders.Order.{Order}
use Rattle.console.specs.declared.orders.Order.TheVariants.{Work, Hear, Tell, Show, Unknown}

-- what a line can mean: to hear goes with a place and a frame's bytes, none where its digits write none; to tell goes with a place
pub data Meaning : Type 0 where
  work : Meaning
  hear : ℕ → Option (List ℕ) → Meaning
  tell : ℕ → Meaning
  show : Meaning
  unknown : Meaning

-- what an order means
abbrev pub meant : Order → Meaning
meant Work = work
meant (Hear place frame) = hear place (option_map vec_items frame)
meant (Tell place) = tell place
meant Show = show
meant Unknown = unknown

-- `tell` with a place, where it is a number
abbrev pub tell_to : Option ℕ → Meaning
tell_to None = unknown
tell_to (Some place) = tell place

-- `hear` with a place, where it is a number, and a frame
abbrev pub hear_from : Option ℕ → Option (List ℕ) → Meaning
hear_from None frame = unknown
hear_from (Some place) frame = hear place frame

-- what a line means, by its words: `work` or `show` alone, `tell` and a place, `hear` and a place and a frame; any other line is unknown
abbrev pub meant_by : List (List ℕ) → Meaning
meant_by [] = unknown
meant_by (verb ∷ []) = cond (bytes_eq verb (codes "work")) work (cond (bytes_eq verb (codes "show")) show unknown)
meant_by (verb ∷ place ∷ []) = cond (bytes_eq verb (codes "tell")) (tell_to (number_of place)) unknown
meant_by (verb ∷ place ∷ digits ∷ []) = cond (bytes_eq verb (codes "hear")) (hear_from (number_of place) (bytes_of digits)) unknown
meant_by (verb ∷ place ∷ digits ∷ more ∷ words) = unknown
