-- Each name and its place, as a chain over them sees it.
use Rattle.std.proofs.Common.{◌≡◌, ℕ, ◌<◌, ◌≤◌, Bool, true, false, List, length, get_or, take, ◌==◌, None, Some, Option, MatchOption, sym, ap, ◌∙◌, subst, arith}
use Rattle.std.specs.List.{IsAnyAnswer, AllWithin, HoldsAt, enumerate_from}
use Rattle.std.proofs.lemmas.List.{get_or-take, length-take-le}
use Rattle.std.proofs.lemmas.List.FromFn.{length-enumerate_from, get_or-enumerate_from}
use Rattle.std.proofs.lemmas.Bool.{eqb-true, eqb-false}
use Rattle.topology.specs.Checks.{Apart, Again}

module _ (names : List ℕ) where
  -- the answer whether the name stands among those before its place
  abbrev pub Before : Bool → ℕ × ℕ → Type 0
  Before r p = IsAnyAnswer (λ n t. (n == p.1) ≡ t) (take p.0 names) r

  before_at : (r : Bool) (k : ℕ) → k < length names → HoldsAt (Before r) (enumerate_from 0 names) k → Before r (k, get_or names k 0)
  before_at r k l h = subst (Before r) (get_or-enumerate_from 0 names k (0, 0) l ∙ ap (λ i. (i, get_or names k 0)) (omega arith)) (h (0, 0))

  apart_below : (n : ℕ) → n ≤ length names → AllWithin (Before false) (enumerate_from 0 names) 0 n → Apart names n
  apart_below n le none a b p =
      let none-b = before_at false b (omega arith) (λ d. none b d (omega arith) p.1) in
      let long = length-take-le b names (omega arith) in
      eqb-false _ _ (none-b a 0 (omega arith) (omega (arith, long))) (get_or-take b names a 0 p.0 ∙ p.2)

  pub names_apart :
      (r : Option ℕ) →
      MatchOption r (AllWithin (Before false) (enumerate_from 0 names) 0 (length (enumerate_from 0 names)))
      (λ i. (i < length (enumerate_from 0 names)) × HoldsAt (Before true) (enumerate_from 0 names) i × AllWithin (Before false) (enumerate_from 0 names) 0 i) →
      MatchOption r (Apart names (length names)) (Again names)
  names_apart None none = apart_below (length names) (omega arith) (subst (AllWithin (Before false) (enumerate_from 0 names) 0) (length-enumerate_from 0 names) none)
  names_apart (Some i) first =
      let there : i < length names = omega (arith, first.0, length-enumerate_from 0 names) in
      let found = before_at true i there first.1 in
      let below : found.0 < i = omega (arith, found.1, length-take-le i names (omega arith)) in
      record {
        there = there;
        first = apart_below i (omega arith) first.2;
        before = (found.0, below, sym (get_or-take i names found.0 0 below) ∙ eqb-true _ _ (found.2 0));
      }
