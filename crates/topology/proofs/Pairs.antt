-- Each two lines behind each other, as a chain over them sees it.
use Rattle.std.proofs.Common.{◌≡◌, ℕ, zero, suc, ◌+◌, ◌-◌, ◌<◌, ◌≤◌, Bool, true, false, List, [], ◌∷◌, length, get_or, take, drop, None, Some, Option, MatchOption, refl, sym, ap, ◌∙◌, subst, arith}
use Rattle.std.specs.List.{AllWithin, HoldsAt}
use Rattle.std.specs.Slice.Iter.{windows_rest, windows_size, windows_steps}
use Rattle.std.proofs.lemmas.Iterator.{YieldsList}
use Rattle.std.proofs.lemmas.Iterator.Splits.{YieldsList-from_shown_while}
use Rattle.topology.specs.declared.lines.Line.{Line}
use Rattle.topology.specs.Files.{fits, Fit}
use Rattle.topology.specs.Checks.{Misfit}

abbrev pub pairs_of : {A : Type 0} → List A → List (List A)
pairs_of [] = []
pairs_of (x ∷ []) = []
pairs_of (x ∷ y ∷ xs) = (x ∷ y ∷ []) ∷ pairs_of (y ∷ xs)

module _ {A : Type 0} where
  no_pair : (xs : List A) → length xs < 2 → length (pairs_of xs) ≡ 0
  no_pair [] l = refl
  no_pair (x ∷ []) l = refl
  no_pair (x ∷ y ∷ xs) l = absurd (omega arith)

  first_pair : (xs : List A) → 2 ≤ length xs → pairs_of xs ≡ take 2 xs ∷ pairs_of (drop 1 xs)
  first_pair [] l = absurd (omega arith)
  first_pair (x ∷ []) l = absurd (omega arith)
  first_pair (x ∷ y ∷ xs) l = refl

  length-pairs_of : (xs : List A) → length (pairs_of xs) ≡ length xs - 1
  length-pairs_of [] = omega arith
  length-pairs_of (x ∷ []) = omega arith
  length-pairs_of (x ∷ y ∷ xs) = omega (arith, length-pairs_of (y ∷ xs))

  get_or-pairs_of : (xs : List A) (i : ℕ) (d : List A) (e : A) → i < length (pairs_of xs) → get_or (pairs_of xs) i d ≡ get_or xs i e ∷ get_or xs (suc i) e ∷ []
  get_or-pairs_of [] i d e l = absurd (omega arith)
  get_or-pairs_of (x ∷ []) i d e l = absurd (omega arith)
  get_or-pairs_of (x ∷ y ∷ xs) zero d e l = refl
  get_or-pairs_of (x ∷ y ∷ xs) (suc i) d e l = get_or-pairs_of (y ∷ xs) i d e (omega arith)

  pub YieldsList-from_windows : (s : _) (xs : List A) → windows_rest s ≡ xs → windows_size s ≡ 2 → YieldsList (windows_steps {A = A}) (λ w. w.now) s (pairs_of xs)
  YieldsList-from_windows s xs rest two =
      rw (← rest) (
      YieldsList-from_shown_while (windows_steps {A = A}) (λ w. w.now) (λ s. pairs_of (windows_rest s)) (λ s. windows_size s ≡ 2)
      (λ s t p h. no_pair (windows_rest s) (omega (arith, h.1.0)))
      (λ s w t p h. (
        h.0 ∙ p,
        first_pair (windows_rest s) (omega (arith, h.1.0)) ∙ ap (λ n. take n (windows_rest s) ∷ pairs_of (drop 1 (windows_rest s))) (sym p)
            ∙ ap (λ v. v ∷ pairs_of (drop 1 (windows_rest s))) (sym h.1.1) ∙ ap (λ r. w.now ∷ pairs_of r) (sym h.1.2),
      ))
      s two
      )

abbrev pub Pair : Bool → List Line → Type 0
Pair r w = (d : Line) → length w ≡ 2 → fits (get_or w 0 d) (get_or w 1 d) ≡ r

module _ (lines : List Line) where
  at_pair : (r : Bool) (i : ℕ) → i < length (pairs_of lines) → HoldsAt (Pair r) (pairs_of lines) i → (d : Line) → fits (get_or lines i d) (get_or lines (i + 1) d) ≡ r
  at_pair r i l holds d =
      let p : Pair r (get_or lines i d ∷ get_or lines (suc i) d ∷ []) = subst (Pair r) (get_or-pairs_of lines i [] d l) (holds []) in
      ap (λ k. fits (get_or lines i d) (get_or lines k d)) (omega arith) ∙ p d refl

  fit_below : (n : ℕ) → n ≤ length (pairs_of lines) → AllWithin (Pair true) (pairs_of lines) 0 n → Fit lines (n + 1)
  fit_below n le all k d l h =
      ap (λ j. fits (get_or lines (k - 1) d) (get_or lines j d)) (omega arith)
      ∙ at_pair true (k - 1) (omega arith) (λ e. all (k - 1) e (omega arith) (omega arith)) d

  pub neighbours_fit :
      (r : Option ℕ) →
      MatchOption r (AllWithin (Pair true) (pairs_of lines) 0 (length (pairs_of lines)))
      (λ i. (i < length (pairs_of lines)) × HoldsAt (Pair false) (pairs_of lines) i × AllWithin (Pair true) (pairs_of lines) 0 i) →
      MatchOption r (Fit lines (length lines)) (λ i. Misfit lines (i + 1))
  neighbours_fit None all = λ k d l h. fit_below (length (pairs_of lines)) (omega arith) all k d l (omega (arith, length-pairs_of lines))
  neighbours_fit (Some i) first =
      let long = length-pairs_of lines in
      record {
        behind = omega arith;
        there = omega (arith, first.0, long);
        before = fit_below i (omega (arith, first.0)) first.2;
        wrong = λ d. ap (λ k. fits (get_or lines k d) (get_or lines (i + 1) d)) (omega arith) ∙ at_pair false i first.0 first.1 d;
      }
