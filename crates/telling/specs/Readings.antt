-- What reading a slice of bytes comes to.
use Rattle.std.specs.Prelude.{ℕ, Bool, cond, ◌&&◌, List, length, take, drop, Ok, Err, Result, ◌==◌, slice_index}
use Rattle.telling.specs.declared.Telling.{Telling}
use Rattle.telling.specs.declared.frame.Reading.{Reading}
use Rattle.telling.specs.declared.frame.Reading.TheVariants.{Told, Noise}
use Rattle.telling.specs.declared.refusal.Refusal.{Refusal}
use Rattle.telling.specs.declared.refusal.Refusal.TheVariants.{Unreadable}
use Rattle.telling.specs.Layout.{telling_of, check_of}

-- 30 bytes, the first of them 76, the last the check of those before it
abbrev pub is_frame : List ℕ → Bool
is_frame bytes = length bytes == 30 && slice_index bytes 0 == 76 && slice_index bytes 29 == check_of (take 29 bytes)

-- a frame is read to the telling in it, anything else is noise
abbrev pub reading_of : List ℕ → Reading
reading_of bytes = cond (is_frame bytes) (Told (telling_of (take 28 (drop 1 bytes)))) Noise

-- each case: a telling is what was told, noise is refused by 1, as what cannot be read
abbrev pub told_of : Reading → Result Telling Refusal
told_of (Told t) = Ok t
told_of Noise = Err Unreadable
