-- Places of a list that pass a test, the first of them, and the least number that passes one.
use Rattle.std.proofs.Common.{◌≡◌, ℕ, zero, suc, ◌<◌, ◌≤◌, Bool, true, false, eqb, List, [], ◌∷◌, sym, refl, ap, ◌∙◌, ⊎_elim, arith}
use Rattle.std.proofs.lemmas.Bool.{or_cases, or_left, or_right, eqb-true, eq-eqb, cases_Bool, both_ways, cond-true, cond-false}
use Rattle.protocol.specs.Rows.{has_wire}
use Rattle.model.specs.Assignment.{any_of, first_that, least_of}

module _ (test : ℕ → Bool) where
  -- a place of a list that passes the test
  pub any_found : (ps : List ℕ) → any_of test ps ≡ true → (p : ℕ) × (has_wire ps p ≡ true) × (test p ≡ true)
  unfolding any_of has_wire
  any_found [] e = absurd (both_ways _ refl e)
  any_found (q ∷ ps) e =
      ⊎_elim
      (λ t. (q, or_left _ _ (eq-eqb q q refl), t))
      (λ t. let f = any_found ps t in (f.0, or_right _ _ f.1, f.2))
      (or_cases (test q) (any_of test ps) e)

  pub any_from : (ps : List ℕ) (p : ℕ) → has_wire ps p ≡ true → test p ≡ true → any_of test ps ≡ true
  unfolding any_of has_wire
  any_from [] p e t = absurd (both_ways _ refl e)
  any_from (q ∷ ps) p e t =
      ⊎_elim
      (λ f. or_left _ _ (ap test (eqb-true q p f) ∙ t))
      (λ f. or_right _ _ (any_from ps p f t))
      (or_cases (eqb q p) (has_wire ps p) e)

  -- the first place that passes, where one does
  pub first_found : (other : ℕ) (ps : List ℕ) → any_of test ps ≡ true → (has_wire ps (first_that test other ps) ≡ true) × (test (first_that test other ps) ≡ true)
  unfolding any_of has_wire first_that
  first_found other [] e = absurd (both_ways _ refl e)
  first_found other (q ∷ ps) e =
      ⊎_elim
      (λ t.
      let is = cond-true (test q) q (first_that test other ps) t in
      (or_left _ _ (eq-eqb q _ (sym is)), ap test is ∙ t))
      (λ f.
      let is = cond-false (test q) q (first_that test other ps) f in
      let rest = first_found other ps (⊎_elim (λ t. absurd (both_ways _ f t)) (λ t. t) (or_cases (test q) (any_of test ps) e)) in
      (or_right _ _ (ap (has_wire ps) is ∙ rest.0), ap test is ∙ rest.1))
      (cases_Bool (test q))

  -- where none does, it is the other
  pub first_none : (other : ℕ) (ps : List ℕ) → ((p : ℕ) → test p ≡ false) → first_that test other ps ≡ other
  unfolding first_that
  first_none other [] fails = refl
  first_none other (q ∷ ps) fails = cond-false _ _ _ (fails q) ∙ first_none other ps fails

-- the least number that passes a test
pub least_passes : (test : ℕ → Bool) (n k : ℕ) → k < n → test k ≡ true → (test (least_of test n) ≡ true) × (least_of test n ≤ k)
unfolding least_of
least_passes test zero k l t = absurd (omega arith)
least_passes test (suc n) zero l t = let is = cond-true (test zero) zero (suc (least_of (λ k. test (suc k)) n)) t in (ap test is ∙ t, omega arith)
least_passes test (suc n) (suc k) l t =
    ⊎_elim
    (λ now. let is = cond-true (test zero) zero (suc (least_of (λ k. test (suc k)) n)) now in (ap test is ∙ now, omega arith))
    (λ later.
    let is = cond-false (test zero) zero (suc (least_of (λ k. test (suc k)) n)) later in
    let rest = least_passes (λ k. test (suc k)) n k (omega arith) t in
    (ap test is ∙ rest.0, omega (arith, is, rest.1)))
    (cases_Bool (test zero))
