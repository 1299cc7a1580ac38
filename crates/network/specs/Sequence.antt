-- The sequence that a seed begins, and what is drawn from it.
use Rattle.std.specs.Prelude.{ℕ, zero, suc, ◌+◌, ◌*◌, ◌/◌, ◌%◌, ◌^◌, List, [], ◌∷◌, ◌++◌}
use Rattle.telling.specs.declared.Telling.{Telling}
use Rattle.protocol.specs.declared.state.Numbers.{Numbers}

-- the state behind a state, cut to 32 bits
unfoldable pub next_of : ℕ → ℕ
next_of s = (s * 1664525 + 1013904223) % 2 ^ 32

-- what is drawn at a state: its upper 16 bits
abbrev pub draw_at : ℕ → ℕ
draw_at s = s / 65536

-- the number drawn next: two draws, the first its high half
abbrev pub number_from : ℕ → ℕ
number_from s = draw_at (next_of s) * 65536 + draw_at (next_of (next_of s))

-- the state after so many numbers
abbrev pub after : ℕ → ℕ → ℕ
after zero s = s
after (suc k) s = next_of (next_of (after k s))

-- so many numbers drawn next
unfoldable pub numbers_drawn : ℕ → ℕ → List ℕ
numbers_drawn zero s = []
numbers_drawn (suc k) s = numbers_drawn k s ++ number_from (after k s) ∷ []

-- the telling drawn next
unfoldable pub telling_from : ℕ → Telling
telling_from s =
    record {
      best = number_from s;
      distance = number_from (after 1 s);
      parent = number_from (after 2 s);
      size = number_from (after 3 s);
      total = number_from (after 4 s);
      number = number_from (after 5 s);
      given = number_from (after 6 s);
    }

-- the numbers of a lamp drawn next
unfoldable pub numbers_from : ℕ → Numbers
numbers_from s =
    record {
      best = number_from s;
      distance = number_from (after 1 s);
      parent = number_from (after 2 s);
      size = number_from (after 3 s);
      total = number_from (after 4 s);
      number = number_from (after 5 s);
    }
