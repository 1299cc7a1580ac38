-- What a memory says of a lamp's neighbours: the k-th part is of the k-th wire.
use Rattle.std.specs.Prelude.{◌≡◌, ℕ, ◌*◌, ◌<◌, Bool, true, cond, List, length, Ok, Err, Result, ◌==◌, slice_index_or}
use Rattle.telling.specs.declared.Telling.{Telling}
use Rattle.telling.specs.declared.refusal.Refusal.{Refusal}
use Rattle.telling.specs.declared.refusal.Refusal.TheVariants.{Memory}
use Rattle.telling.specs.Laws.{Fitting}
use Rattle.telling.specs.Layout.{bytes_of, telling_of, part_of}
use Rattle.protocol.specs.Rules.{nothing}

-- a memory has 28 bytes for each wire
abbrev pub is_memory : ℕ → List ℕ → Bool
is_memory wires memory = length memory == 28 * wires

-- a memory of another size is refused by 3, in recalling and in storing
abbrev pub taken_of : ℕ → List ℕ → Result (Unit {0}) Refusal
taken_of wires memory = cond (is_memory wires memory) (Ok tt) (Err Memory)

-- the telling in a part of a memory, zeros if the memory is of another size
abbrev pub recollection : ℕ → List ℕ → ℕ → Telling
recollection wires memory k = cond (is_memory wires memory) (telling_of (part_of memory k)) nothing

-- on each wire below n, the telling is the one in that part
abbrev pub Recalls : (ℕ → Telling) → List Telling → ℕ → Type 0
Recalls part heard n = (k : ℕ) → k < n → slice_index_or heard k nothing ≡ part k

-- each part below n holds the telling of that wire
abbrev pub Holds : List ℕ → List Telling → ℕ → Type 0
Holds memory heard n = (k : ℕ) → k < n → part_of memory k ≡ bytes_of (slice_index_or heard k nothing)

-- what was stored is recalled: the tellings in a memory that holds some are those
abbrev pub RecalledAsStored : Type 0
RecalledAsStored =
    (memory : List ℕ) (heard : List Telling) (n : ℕ) → is_memory n memory ≡ true → ((k : ℕ) → k < n → Fitting (slice_index_or heard k nothing)) →
    Holds memory heard n → Recalls (recollection n memory) heard n
