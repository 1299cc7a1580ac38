-- Decimal numbers, read a digit at a time.
use Rattle.std.proofs.Common.{◌≡◌, ℕ, ◌+◌, ◌-◌, ◌*◌, ◌<◌, ◌≤◌, cond, ◌&&◌, leb, List, [], ◌∷◌, length, get_or, drop, Some, None, Option, sym, refl, ◌∙◌, arith}
use Rattle.std.proofs.lemmas.List.{at_drop_more, at_drop_all}
use Rattle.std.proofs.lemmas.Bool.{le-leb, ne_eqb, cond-true}
use Rattle.std.proofs.lemmas.Bool.Decides.{nat_tests}
use Rattle.text.specs.Decimal.{all_digits, read_on, largest, number_of, with_digit}

-- the number of a word of which cs is left, and whose digits before that gave n
unfoldable pub number_after : ℕ → List ℕ → Option ℕ
number_after n cs = cond (all_digits cs && leb (read_on n cs) largest) (Some (read_on n cs)) None

pub number_empty : (cs : List ℕ) → length cs ≡ 0 → number_of cs ≡ None
unfolding number_of
number_empty [] e = refl
number_empty (c ∷ cs) e = absurd (omega arith)

pub number_start : (cs : List ℕ) → 0 < length cs → number_of cs ≡ number_after 0 cs
unfolding number_of number_after
number_start [] l = absurd (omega arith)
number_start (c ∷ cs) l = rw (ne_eqb (length (c ∷ cs)) 0 (λ e. omega arith)) refl

pub number_end : (n : ℕ) (cs : List ℕ) (i : ℕ) → length cs ≤ i → n ≤ largest → number_after n (drop i cs) ≡ Some n
unfolding number_after all_digits read_on
number_end n cs i l small = at_drop_all (number_after n) cs i l ∙ cond-true (leb n largest) _ _ (le-leb n largest small)

-- digits behind a number do not make it smaller
grows : (n : ℕ) (cs : List ℕ) → n ≤ read_on n cs
unfolding read_on
grows n [] = omega arith
grows n (c ∷ cs) = omega (arith, grows (n * 10 + (c - 48)) cs)

digit_more : (n c : ℕ) (cs : List ℕ) (m : ℕ) → with_digit n c ≡ Some m → number_after n (c ∷ cs) ≡ number_after m cs
unfolding number_after all_digits read_on
digit_more n c cs m e = grind (arith, nat_tests)

digit_none : (n c : ℕ) (cs : List ℕ) → with_digit n c ≡ None → number_after n (c ∷ cs) ≡ None
unfolding number_after all_digits read_on
digit_none n c cs e = let g = grows (n * 10 + (c - 48)) cs in grind (arith, nat_tests)

-- one digit on, and where it cannot go on
pub number_more : (n : ℕ) (cs : List ℕ) (i m : ℕ) → i < length cs → with_digit n (get_or cs i 0) ≡ Some m → (m ≤ largest) × (number_after m (drop (i + 1) cs) ≡ number_after n (drop i cs))
number_more n cs i m l e = (
  grind (arith, nat_tests),
  sym (at_drop_more (number_after n) cs i 0 l ∙ digit_more n (get_or cs i 0) (drop (i + 1) cs) m e),
)

pub number_none : (n : ℕ) (cs : List ℕ) (i : ℕ) → i < length cs → with_digit n (get_or cs i 0) ≡ None → number_after n (drop i cs) ≡ None
number_none n cs i l e = at_drop_more (number_after n) cs i 0 l ∙ digit_none n (get_or cs i 0) (drop (i + 1) cs) e
