-- Bytes in hexadecimal: two digits for each byte, the high one first.
use Rattle.std.specs.Prelude.{◌≡◌, ℕ, ◌+◌, ◌-◌, ◌*◌, ◌/◌, ◌%◌, ◌<◌, ◌≤◌, cond, ◌&&◌, List, [], ◌∷◌, Some, None, Option, nat_le, nat_lt}
use Rattle.std.specs.List.{AllByRecursion}
use Rattle.text.specs.Decimal.{is_digit}

-- the digit of a number below 16: '0' to '9', and then 'a' to 'f'
abbrev pub hex_digit : ℕ → ℕ
hex_digit n = cond (nat_lt n 10) (48 + n) (87 + n)

-- bytes as they are written
unfoldable pub hex_of : List ℕ → List ℕ
hex_of [] = []
hex_of (b ∷ bs) = hex_digit (b / 16) ∷ hex_digit (b % 16) ∷ hex_of bs

-- the number of a digit that is read: '0' to '9', 'a' to 'f' or 'A' to 'F'
abbrev pub hex_value : ℕ → Option ℕ
hex_value c =
    cond (is_digit c) (Some (c - 48))
    (cond (nat_le 97 c && nat_le c 102) (Some (c - 87))
    (cond (nat_le 65 c && nat_le c 70) (Some (c - 55)) None))

-- the byte of a high and a low digit, where both are digits
abbrev pub join_digits : Option ℕ → Option ℕ → Option ℕ
join_digits None low = None
join_digits (Some h) None = None
join_digits (Some h) (Some l) = Some (h * 16 + l)

-- one in front of others, where both are there
abbrev pub with_first : Option ℕ → Option (List ℕ) → Option (List ℕ)
with_first None bs = None
with_first (Some b) None = None
with_first (Some b) (Some bs) = Some (b ∷ bs)

-- the bytes that digits write: none where a digit is left over or a byte is no digit
unfoldable pub bytes_of : List ℕ → Option (List ℕ)
bytes_of [] = Some []
bytes_of (c ∷ []) = None
bytes_of (h ∷ l ∷ cs) = with_first (join_digits (hex_value h) (hex_value l)) (bytes_of cs)

-- what is written is read back
abbrev pub ReadsBack : Type 0
ReadsBack = (bs : List ℕ) → AllByRecursion (λ b. b < 256) bs → bytes_of (hex_of bs) ≡ Some bs

-- no 'A' to 'F': in hexadecimal, lower case
abbrev pub Lower : List ℕ → Type 0
Lower cs = AllByRecursion (λ c. (65 ≤ c → 70 < c)) cs

-- digits in lower case that are read are those that would be written
abbrev pub WrittenSo : Type 0
WrittenSo = (cs bs : List ℕ) → Lower cs → bytes_of cs ≡ Some bs → hex_of bs ≡ cs
