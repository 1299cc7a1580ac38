-- Sums of a function over all numbers below a bound.
use Rattle.std.proofs.Common.{◌≡◌, ℕ, zero, suc, ◌+◌, ◌<◌, ◌≤◌, Bool, true, false, cond, eqb, refl, ap, ◌∙◌, ⊎_elim, arith}
use Rattle.std.proofs.lemmas.Bool.{cases_eq, eq-eqb, ne_eqb, both_ways, cond-true, cond-false}
use Rattle.model.specs.Trees.{sum_below}

module _ (f g : ℕ → ℕ) where
  pub sum_same : (n : ℕ) → ((c : ℕ) → c < n → f c ≡ g c) → sum_below f n ≡ sum_below g n
  unfolding sum_below
  sum_same zero e = refl
  sum_same (suc n) e = omega (arith, sum_same n (λ c l. e c (omega arith)), e n (omega arith))

  pub sum_le : (n : ℕ) → ((c : ℕ) → c < n → f c ≤ g c) → sum_below f n ≤ sum_below g n
  unfolding sum_below
  sum_le zero h = omega arith
  sum_le (suc n) h = omega (arith, sum_le n (λ c l. h c (omega arith)), h n (omega arith))

  pub sum_plus : (n : ℕ) → sum_below (λ c. f c + g c) n ≡ sum_below f n + sum_below g n
  unfolding sum_below
  sum_plus zero = refl
  sum_plus (suc n) = omega (arith, sum_plus n)

-- every number counted once
pub sum_ones : (n : ℕ) → sum_below (λ c. 1) n ≡ n
unfolding sum_below
sum_ones zero = refl
sum_ones (suc n) = omega (arith, sum_ones n)

pub sum_none : (f : ℕ → ℕ) (n : ℕ) → ((c : ℕ) → c < n → f c ≡ 0) → sum_below f n ≡ 0
unfolding sum_below
sum_none f zero e = refl
sum_none f (suc n) e = omega (arith, sum_none f n (λ c l. e c (omega arith)), e n (omega arith))

-- where the function is 0 but at one number, the sum is what it is there
pub sum_only : (f : ℕ → ℕ) (a n : ℕ) → a < n → ((c : ℕ) → c < n → (c ≡ a → ⊥) → f c ≡ 0) → sum_below f n ≡ f a
unfolding sum_below
sum_only f a zero l e = absurd (omega arith)
sum_only f a (suc n) l e =
    ⊎_elim
    (λ here. omega (arith, sum_none f n (λ c m. e c (omega arith) (omega arith)), ap f here))
    (λ other. omega (arith, sum_only f a n (omega arith) (λ c m. e c (omega arith)), e n (omega arith) other))
    (cases_eq n a)

pub sum_one : (a x n : ℕ) → a < n → sum_below (λ c. cond (eqb c a) x 0) n ≡ x
sum_one a x n l =
    sum_only (λ c. cond (eqb c a) x 0) a n l (λ c m other. cond-false (eqb c a) x 0 (ne_eqb c a other)) ∙
    cond-true (eqb a a) x 0 (eq-eqb a a refl)

pub sum_one_past : (a x n : ℕ) → n ≤ a → sum_below (λ c. cond (eqb c a) x 0) n ≡ 0
sum_one_past a x n l = sum_none (λ c. cond (eqb c a) x 0) n (λ c m. cond-false (eqb c a) x 0 (ne_eqb c a (omega arith)))

-- a double sum, by rows or by columns
pub sum_swap : (f : ℕ → ℕ → ℕ) (m n : ℕ) → sum_below (λ a. sum_below (λ c. f a c) n) m ≡ sum_below (λ c. sum_below (λ a. f a c) m) n
unfolding sum_below
sum_swap f zero n = omega (arith, sum_none (λ c. 0) n (λ c l. refl))
sum_swap f (suc m) n = omega (arith, sum_swap f m n, sum_plus (λ c. sum_below (λ a. f a c) m) (λ c. f m c) n)

test_le : (x y : Bool) (n : ℕ) → (x ≡ true → y ≡ true) → cond x n 0 ≤ cond y n 0
test_le true true n h = omega arith
test_le true false n h = absurd (both_ways false refl (h refl))
test_le false y n h = omega arith

-- sums of what passes a test, where all that passes the one test passes the other too
module _ (p q : ℕ → Bool) (weight : ℕ → ℕ) (passes : (c : ℕ) → p c ≡ true → q c ≡ true) where
  pub sum_tests_le : (n : ℕ) → sum_below (λ c. cond (p c) (weight c) 0) n ≤ sum_below (λ c. cond (q c) (weight c) 0) n
  sum_tests_le n = sum_le (λ c. cond (p c) (weight c) 0) (λ c. cond (q c) (weight c) 0) n (λ c l. test_le (p c) (q c) (weight c) (passes c))

  -- what passes only the other test makes the difference
  pub sum_tests_more :
      (a n : ℕ) → a < n → p a ≡ false → q a ≡ true →
      sum_below (λ c. cond (p c) (weight c) 0) n + weight a ≤ sum_below (λ c. cond (q c) (weight c) 0) n
  unfolding sum_below
  sum_tests_more a zero l out within = absurd (omega arith)
  sum_tests_more a (suc n) l out within =
      ⊎_elim
      (λ here.
      let none : cond (p n) (weight n) 0 ≡ 0 = cond-false (p n) (weight n) 0 (ap p here ∙ out) in
      let whole : cond (q n) (weight n) 0 ≡ weight n = cond-true (q n) (weight n) 0 (ap q here ∙ within) in
      omega (arith, sum_tests_le n, ap weight here))
      (λ other. omega (arith, sum_tests_more a n (omega arith) out within, test_le (p n) (q n) (weight n) (passes n)))
      (cases_eq n a)
