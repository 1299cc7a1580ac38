-- Tellings and numbers in lists of words.
use Rattle.std.specs.Prelude.{◌≡◌, ℕ, ◌*◌, cond, List, length, take, drop, ◌==◌, ◌≢◌, slice_index}
use Rattle.telling.specs.declared.Telling.{Telling}
use Rattle.telling.specs.declared.frame.Reading.{Reading}
use Rattle.telling.specs.declared.frame.Reading.TheVariants.{Told, Noise}
use Rattle.telling.specs.Words.{telling_of_words}
use Rattle.protocol.specs.declared.state.Numbers.{Numbers}
use Rattle.protocol.specs.Words.{numbers_of_words}

-- the s-th part of n words
unfoldable pub part_in : ℕ → List ℕ → ℕ → List ℕ
part_in n words s = take n (drop (n * s) words)

-- the telling in the s-th slot of seven words
abbrev pub telling_in : List ℕ → ℕ → Telling
telling_in words s = telling_of_words (part_in 7 words s)

-- the numbers in the i-th part of six words
abbrev pub numbers_in : List ℕ → ℕ → Numbers
numbers_in words i = numbers_of_words (part_in 6 words i)

-- what lies on the wire of the s-th slot: a telling, unless the slot is marked as noise
abbrev pub reading_in : List ℕ → List ℕ → ℕ → Reading
reading_in wires noise s = cond (slice_index noise s == 0) (Told (telling_in wires s)) Noise

-- words after something was put into the s-th of their parts, by what is read there: it is there, and every other part is as it was
pub record Put {X : Type 0} (read : List ℕ → ℕ → X) (before after : List ℕ) (s : ℕ) (x : X) : Type 0 where
  pub here : read after s ≡ x
  pub others : (r : ℕ) → (r ≢ s) → read after r ≡ read before r
  pub long : length after ≡ length before

-- n words were put, a telling, a lamp's numbers
abbrev pub PartPut : ℕ → List ℕ → List ℕ → ℕ → List ℕ → Type 0
PartPut n = Put (part_in n)

abbrev pub TellingPut : List ℕ → List ℕ → ℕ → Telling → Type 0
TellingPut = Put telling_in

abbrev pub NumbersPut : List ℕ → List ℕ → ℕ → Numbers → Type 0
NumbersPut = Put numbers_in
