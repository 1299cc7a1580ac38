-- How a telling stands in bytes: as a frame on a wire, and as a part of a memory.
use Rattle.std.specs.Prelude.{ℕ, ◌+◌, ◌*◌, ◌/◌, ◌%◌, List, [], ◌∷◌, ◌++◌, take, drop, sum, slice_index}
use Rattle.telling.specs.declared.Telling.{Telling}

-- a number in four bytes, high byte first
abbrev pub word_of : ℕ → List ℕ
word_of n = n / 16777216 % 256 ∷ n / 65536 % 256 ∷ n / 256 % 256 ∷ n % 256 ∷ []

-- the number in the four bytes from place k on
abbrev pub word_at : List ℕ → ℕ → ℕ
word_at bytes k = slice_index bytes k * 16777216 + slice_index bytes (k + 1) * 65536 + slice_index bytes (k + 2) * 256 + slice_index bytes (k + 3)

-- the 28 bytes of a telling: its seven numbers in their order
unfoldable pub bytes_of : Telling → List ℕ
bytes_of t = word_of t.best ++ word_of t.distance ++ word_of t.parent ++ word_of t.size ++ word_of t.total ++ word_of t.number ++ word_of t.given

-- the telling in 28 bytes
unfoldable pub telling_of : List ℕ → Telling
telling_of bytes =
    record {
      best = word_at bytes 0;
      distance = word_at bytes 4;
      parent = word_at bytes 8;
      size = word_at bytes 12;
      total = word_at bytes 16;
      number = word_at bytes 20;
      given = word_at bytes 24;
    }

-- the last byte of a frame: the sum of those before it, cut to 8 bits
abbrev pub check_of : List ℕ → ℕ
check_of bytes = sum bytes % 256

-- the 30 bytes of a frame: 76, the telling, the check of those 29
abbrev pub frame_of : Telling → List ℕ
frame_of t = (76 ∷ bytes_of t) ++ (check_of (76 ∷ bytes_of t) ∷ [])

-- the k-th part of a memory, 28 bytes
abbrev pub part_of : List ℕ → ℕ → List ℕ
part_of memory k = take 28 (drop (28 * k) memory)

-- a memory whose k-th part of 28 bytes is the telling's, every other byte as it was
abbrev pub stored : List ℕ → ℕ → Telling → List ℕ
stored memory k t = take (28 * k) memory ++ (bytes_of t ++ drop (28 * k + 28) memory)
