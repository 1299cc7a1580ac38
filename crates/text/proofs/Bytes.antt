-- Bytes in hexadecimal, read and written a byte at a time.
use Rattle.std.proofs.Common.{◌≡◌, ℕ, ◌+◌, ◌-◌, ◌/◌, ◌%◌, ◌<◌, ◌≤◌, List, [], ◌∷◌, ◌++◌, length, get_or, take, drop, Some, None, Option, sym, refl, ap, ◌∙◌, append_assoc, append-nil, arith}
use Rattle.std.proofs.lemmas.List.{at_drop_more, at_drop_all, take_rest}
use Rattle.std.proofs.lemmas.Bool.Decides.{nat_tests}
use Rattle.text.specs.Hex.{hex_digit, hex_of, hex_value, join_digits, with_first, bytes_of, ReadsBack, WrittenSo}

-- what was read, in front of what is yet to be read
abbrev pub behind : List ℕ → Option (List ℕ) → Option (List ℕ)
behind front None = None
behind front (Some bs) = Some (front ++ bs)

pub behind_more : (front : List ℕ) (b : ℕ) (o : Option (List ℕ)) → behind front (with_first (Some b) o) ≡ behind (front ++ b ∷ []) o
behind_more front b None = refl
behind_more front b (Some bs) = ap Some (sym (append_assoc front (b ∷ []) bs))

-- the digit that a number below 16 is written as is read as that number
digit_back : (n : ℕ) → n < 16 → hex_value (hex_digit n) ≡ Some n
digit_back n l = grind (arith, nat_tests)

byte_back : (b : ℕ) → b < 256 → join_digits (hex_value (hex_digit (b / 16))) (hex_value (hex_digit (b % 16))) ≡ Some b
byte_back b l =
    rw (digit_back (b / 16) (omega arith), digit_back (b % 16) (omega arith)) (ap Some (omega arith))

pub reads_back : ReadsBack
unfolding hex_of bytes_of
reads_back [] l = refl
reads_back (b ∷ bs) l = rw (byte_back b l.0, reads_back bs l.1) refl

-- digits in lower case that give a byte are the digits of that byte
byte_so : (h l b : ℕ) → (65 ≤ h → 70 < h) → (65 ≤ l → 70 < l) → join_digits (hex_value h) (hex_value l) ≡ Some b → (hex_digit (b / 16) ≡ h) × (hex_digit (b % 16) ≡ l)
byte_so h l b lowh lowl e = grind (arith, nat_tests)

-- what stood in front, and what behind
parts : (o : Option ℕ) (p : Option (List ℕ)) (bs : List ℕ) → with_first o p ≡ Some bs → (b : ℕ) × (ds : List ℕ) × (o ≡ Some b) × (p ≡ Some ds) × (bs ≡ b ∷ ds)
parts None p bs e = let z : ◌≡◌ {A = ℕ} 0 1 = cc in absurd (omega arith)
parts (Some b) None bs e = let z : ◌≡◌ {A = ℕ} 0 1 = cc in absurd (omega arith)
parts (Some b) (Some ds) bs e = (b, ds, refl, refl, cc)

pub written_so : WrittenSo
unfolding hex_of bytes_of
written_so [] bs low e = let z : bs ≡ [] = cc in rw z refl
written_so (c ∷ []) bs low e = let z : ◌≡◌ {A = ℕ} 0 1 = cc in absurd (omega arith)
written_so (h ∷ l ∷ cs) bs low e =
    let (b, ds, first, others, whole) = parts (join_digits (hex_value h) (hex_value l)) (bytes_of cs) bs e in
    let so = byte_so h l b low.0 low.1.0 first in
    let on = written_so cs ds low.1.1 others in
    rw whole (cc (so.0, so.1, on))

-- one byte more is written: its high digit h and its low digit l, which are the bytes hs and ls
pub write_more : (t bs : List ℕ) (i : ℕ) {mid more hs ls : List ℕ} {h l : ℕ} → i < length bs → t ++ hex_of (drop i bs) ≡ hex_of bs → h ≡ hex_digit (get_or bs i 0 / 16) → hs ≡ h ∷ [] → mid ≡ t ++ hs → l ≡ hex_digit (get_or bs i 0 % 16) → ls ≡ l ∷ [] → more ≡ mid ++ ls → more ++ hex_of (drop (i + 1) bs) ≡ hex_of bs
unfolding hex_of
write_more t bs i within so_far high high_byte with-high low low_byte with-low =
    rw (with-low, low_byte, low, with-high, high_byte, high) (simp append_assoc (ap (λ xs. t ++ xs) (sym (at_drop_more hex_of bs i 0 within)) ∙ so_far))

pub write_end : (t bs : List ℕ) (i : ℕ) → length bs ≤ i → t ++ hex_of (drop i bs) ≡ hex_of bs → t ≡ hex_of bs
unfolding hex_of
write_end t bs i l e = sym (append-nil t) ∙ sym (at_drop_all (λ xs. t ++ hex_of xs) bs i l) ∙ e

-- one byte more is read: its digits stand at the front of cs
pub read_more : (front cs more : List ℕ) (b : ℕ) → 2 ≤ length cs → join_digits (hex_value (get_or cs 0 0)) (hex_value (get_or cs 1 0)) ≡ Some b → more ≡ front ++ b ∷ [] → behind more (bytes_of (take (length cs - 2) (drop 2 cs))) ≡ behind front (bytes_of cs)
unfolding bytes_of
read_more front [] more b l e f = absurd (omega arith)
read_more front (h ∷ []) more b l e f = absurd (omega arith)
read_more front (h ∷ k ∷ cs) more b l e f = rw (e, f, take_rest (h ∷ k ∷ cs) 2) (sym (behind_more front b (bytes_of cs)))

pub read_none : (front cs : List ℕ) → 2 ≤ length cs → join_digits (hex_value (get_or cs 0 0)) (hex_value (get_or cs 1 0)) ≡ None → behind front (bytes_of cs) ≡ None
unfolding bytes_of
read_none front [] l e = absurd (omega arith)
read_none front (h ∷ []) l e = absurd (omega arith)
read_none front (h ∷ k ∷ cs) l e = rw e refl

-- nothing is left, or one digit
pub read_end : (front cs : List ℕ) → length cs ≡ 0 → behind front (bytes_of cs) ≡ Some front
unfolding bytes_of
read_end front [] e = ap Some (append-nil front)
read_end front (c ∷ cs) e = absurd (omega arith)

pub read_odd : (front cs : List ℕ) → length cs < 2 → (length cs ≡ 0 → ⊥) → behind front (bytes_of cs) ≡ None
unfolding bytes_of
read_odd front [] l n = absurd (n refl)
read_odd front (c ∷ []) l n = refl
read_odd front (c ∷ d ∷ cs) l n = absurd (omega arith)
