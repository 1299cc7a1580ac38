-- Sums over lists of places, and over all places below a number.
use Rattle.std.proofs.Common.{◌≡◌, ℕ, ◌+◌, ◌<◌, ◌≤◌, Bool, true, false, cond, ◌||◌, eqb, List, [], ◌∷◌, map, sum_by, filter, sym, refl, ap, ◌∙◌, ⊎_elim, arith}
use Rattle.std.proofs.lemmas.List.Sums.{sum_by-cons}
use Rattle.std.proofs.lemmas.Bool.{both_ways, or_cases, or_left, or_right, and_parts, eqb-true, eq-eqb, ne_eqb, cond-true, cond-false}
use Rattle.std.proofs.lemmas.Bool.Decides.{nat_tests}
use Rattle.protocol.specs.declared.facts.Own.{Own}
use Rattle.protocol.specs.Rows.{has_wire}
use Rattle.protocol.specs.Wiring.{may_wire, rises_from}
use Rattle.model.specs.Trees.{sum_below}
use Rattle.model.proofs.Sums.{sum_same, sum_plus, sum_none, sum_only}

module _ {X : Type 0} (g : X → ℕ) where
  kept_cons : (b : Bool) (x : X) (us : List X) → sum_by g (cond b (x ∷ us) us) ≡ cond b (g x) 0 + sum_by g us
  kept_cons true x us = sum_by-cons g x us
  kept_cons false x us = omega arith

  -- the sum over those that pass a test is that over all, with 0 for the others
  pub sum_kept : (test : X → Bool) (xs : List X) → sum_by g (filter test xs) ≡ sum_by (λ x. cond (test x) (g x) 0) xs
  sum_kept test [] = refl
  sum_kept test (x ∷ xs) =
      kept_cons (test x) x (filter test xs) ∙ ap (λ n. cond (test x) (g x) 0 + n) (sum_kept test xs) ∙ sym (sum_by-cons (λ x. cond (test x) (g x) 0) x xs)

  pub sum_mapped : {Y : Type 0} (m : Y → X) (ys : List Y) → sum_by g (map m ys) ≡ sum_by (λ y. g (m y)) ys
  sum_mapped m [] = refl
  sum_mapped m (y ∷ ys) = sum_by-cons g (m y) (map m ys) ∙ ap (λ n. g (m y) + n) (sum_mapped m ys) ∙ sym (sum_by-cons (λ y. g (m y)) y ys)

-- two functions that agree on all places of a list have one sum over it
sum_alike : (f g : ℕ → ℕ) (ps : List ℕ) → ((p : ℕ) → has_wire ps p ≡ true → f p ≡ g p) → sum_by f ps ≡ sum_by g ps
unfolding has_wire
sum_alike f g [] same = refl
sum_alike f g (p ∷ ps) same =
    let here = same p (or_left _ _ (eq-eqb p p refl)) in
    let rest = sum_alike f g ps (λ q e. same q (or_right _ _ e)) in
    sum_by-cons f p ps ∙ (λ t. here t + rest t) ∙ sym (sum_by-cons g p ps)

-- the sum over those places of a list that pass a test
pub sum_passing :
    (f g : ℕ → ℕ) (test : ℕ → Bool) (ps : List ℕ) → ((p : ℕ) → has_wire ps p ≡ true → f p ≡ cond (test p) (g p) 0) → sum_by f ps ≡ sum_by g (filter test ps)
sum_passing f g test ps same = sum_alike f (λ p. cond (test p) (g p) 0) ps same ∙ sym (sum_kept g test ps)

may_wire_apart : (own : Own) (low p : ℕ) → may_wire own low p ≡ true → (low ≤ p) × (p ≡ own.place → ⊥)
may_wire_apart own low p e = grind (arith, nat_tests)

one_of_two : (a b : Bool) (x : ℕ) → (a ≡ true → b ≡ true → ⊥) → cond a x 0 + cond b x 0 ≡ cond (a || b) x 0
one_of_two true true x apart = absurd (apart refl refl)
one_of_two true false x apart = omega arith
one_of_two false b x apart = omega arith

-- rising places
module _ (own : Own) where
  -- all of them from `low` on, and none the lamp's own
  pub rising_from : (ps : List ℕ) (low p : ℕ) → rises_from own low ps ≡ true → has_wire ps p ≡ true → (low ≤ p) × (p ≡ own.place → ⊥)
  unfolding rises_from has_wire
  rising_from [] low p r e = absurd (both_ways _ refl e)
  rising_from (q ∷ ps) low p r e =
      let parts = and_parts (may_wire own low q) _ r in
      let first = may_wire_apart own low q parts.0 in
      ⊎_elim
      (λ f. let same = eqb-true q p f in (omega arith, λ is. first.1 (same ∙ is)))
      (λ f. let later = rising_from ps (q + 1) p parts.1 f in (omega arith, later.1))
      (or_cases (eqb q p) (has_wire ps p) e)

  -- the sum over them is that over all places, with 0 for those that are not among them
  pub sum_places :
      (g : ℕ → ℕ) (n : ℕ) (ps : List ℕ) (low : ℕ) → rises_from own low ps ≡ true → ((p : ℕ) → has_wire ps p ≡ true → p < n) →
      sum_by g ps ≡ sum_below (λ c. cond (has_wire ps c) (g c) 0) n
  unfolding rises_from has_wire
  sum_places g n [] low r within = sym (sum_none (λ c. 0) n (λ c l. refl))
  sum_places g n (p ∷ ps) low r within =
      let rises = (and_parts (may_wire own low p) _ r).1 in
      let first : ℕ → ℕ = λ c. cond (eqb p c) (g c) 0 in
      let others : ℕ → ℕ = λ c. cond (has_wire ps c) (g c) 0 in
      let here = eq-eqb p p refl in
      let one = sum_only first p n (within p (or_left _ _ here)) (λ c l other. cond-false (eqb p c) (g c) 0 (ne_eqb p c (λ e. other (sym e)))) in
      let rest = sum_places g n ps (p + 1) rises (λ q e. within q (or_right _ _ e)) in
      let apart : (c : ℕ) → eqb p c ≡ true → has_wire ps c ≡ true → ⊥ = λ c e w. omega (arith, eqb-true p c e, (rising_from ps (p + 1) c rises w).0) in
      sum_by-cons g p ps ∙ (λ t. sym (one ∙ cond-true (eqb p p) (g p) 0 here) t + rest t) ∙ sym (sum_plus first others n) ∙
      sum_same _ _ n (λ c l. one_of_two (eqb p c) (has_wire ps c) (g c) (apart c))
