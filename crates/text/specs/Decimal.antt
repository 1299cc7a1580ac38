-- Decimal numbers: what a word must be to be one, and which number it writes.
use Rattle.std.specs.Prelude.{ℕ, ◌+◌, ◌-◌, ◌*◌, Bool, true, cond, not, ◌&&◌, List, [], ◌∷◌, length, Some, None, Option, ◌==◌, nat_le}

-- '0' to '9'
abbrev pub is_digit : ℕ → Bool
is_digit c = nat_le 48 c && nat_le c 57

-- each byte is a digit
unfoldable pub all_digits : List ℕ → Bool
all_digits [] = true
all_digits (c ∷ cs) = is_digit c && all_digits cs

-- digits read on from the left, after those that gave the number n
unfoldable pub read_on : ℕ → List ℕ → ℕ
read_on n [] = n
read_on n (c ∷ cs) = read_on (n * 10 + (c - 48)) cs

-- the largest number that is read
abbrev pub largest : ℕ
largest = 4294967295

-- a decimal number: one digit or more, nothing else, and a value that is not too large
abbrev pub is_number : List ℕ → Bool
is_number word = not (length word == 0) && (all_digits word && nat_le (read_on 0 word) largest)

-- the number that a word writes, where it writes one
unfoldable pub number_of : List ℕ → Option ℕ
number_of word = cond (is_number word) (Some (read_on 0 word)) None

-- the number n with the digit c behind it, where c is a digit and the number is not too large
abbrev pub with_digit : ℕ → ℕ → Option ℕ
with_digit n c = cond (is_digit c && nat_le (n * 10 + (c - 48)) largest) (Some (n * 10 + (c - 48))) None
