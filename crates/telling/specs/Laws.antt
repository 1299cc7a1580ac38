-- What frames and memories are good for, whatever is told.
use Rattle.std.specs.Prelude.{◌≡◌, ℕ, ◌+◌, ◌*◌, ◌^◌, ◌<◌, ◌≤◌, List, length, ◌≢◌, slice_index}
use Rattle.telling.specs.declared.Telling.{Telling}
use Rattle.telling.specs.declared.frame.Reading.TheVariants.{Told}
use Rattle.telling.specs.Layout.{frame_of, telling_of, part_of, stored}
use Rattle.telling.specs.Readings.{reading_of}

-- the numbers of a list are bytes
abbrev pub Bytes : List ℕ → Type 0
Bytes xs = (k : ℕ) → slice_index xs k < 256

-- each number of a telling has at most 32 bits
pub record Fitting (t : Telling) : Type 0 where
  pub best : t.best < 2 ^ 32
  pub distance : t.distance < 2 ^ 32
  pub parent : t.parent < 2 ^ 32
  pub size : t.size < 2 ^ 32
  pub total : t.total < 2 ^ 32
  pub number : t.number < 2 ^ 32
  pub given : t.given < 2 ^ 32

-- what was written is read back, and bytes that are read to a telling are its frame
abbrev pub OneFrameEach : Type 0
OneFrameEach =
    ((t : Telling) → Fitting t → reading_of (frame_of t) ≡ Told t) ×
    ((bytes : List ℕ) (t : Telling) → Bytes bytes → reading_of bytes ≡ Told t → bytes ≡ frame_of t)

-- a telling that was stored is loaded back, and every other part of the memory is as it was
abbrev pub PartsApart : Type 0
PartsApart =
    (memory : List ℕ) (k : ℕ) (t : Telling) → Fitting t → 28 * k + 28 ≤ length memory →
    (telling_of (part_of (stored memory k t) k) ≡ t) × ((j : ℕ) → (j ≢ k) → part_of (stored memory k t) j ≡ part_of memory j)
