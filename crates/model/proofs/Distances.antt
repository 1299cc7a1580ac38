-- Distances and parents in a sound hall.
use Rattle.std.proofs.Common.{◌≡◌, ℕ, zero, suc, ◌+◌, ◌<◌, ◌≤◌, Bool, true, eqb, refl, subst, ⊎_elim, arith}
use Rattle.std.proofs.lemmas.Bool.{eqb-true, eq-eqb, ne_eqb, cases_lt}
use Rattle.model.specs.Halls.{Hall, Way, Sound, is_wired}
use Rattle.model.specs.Assignment.{root_of, is_near, distance_of, parent_of}
use Rattle.model.specs.Promise.{Shortest}
use Rattle.model.proofs.Facts.{Facts}
use Rattle.model.proofs.Places.{any_from, first_found, first_none, least_passes}
use Rattle.model.proofs.Near.{pred_of, root_lowest, near_across, near_cases, near_way, way_near, near_all}

positive : (n : ℕ) → (n ≡ 0 → ⊥) → 1 ≤ n
positive zero f = absurd (f refl)
positive (suc n) f = omega arith

module _ (h : Hall) (s : Sound h) where
  -- a lamp is near at its distance, which is below the number of lamps, and not before
  record Distance (i : ℕ) : Type 0 where
    below : distance_of h i < h.count
    near : is_near h (distance_of h i) i ≡ true
    least : (k : ℕ) → is_near h k i ≡ true → distance_of h i ≤ k

  distance : (i : ℕ) → i < h.count → Distance i
  unfolding distance_of
  distance i l =
      let p = pred_of h.count s.some in
      let found = least_passes (λ d. is_near h d i) h.count p.0 (omega (arith, p.1)) (near_all h s p.0 i l p.1) in
      record {
        below = omega (arith, found.1, p.1);
        near = found.0;
        least = λ k e.
            ⊎_elim
            (λ inside. (least_passes (λ d. is_near h d i) h.count k inside e).1)
            (λ beyond. omega (arith, found.1, p.1))
            (cases_lt k h.count);
      }

  -- the distance is that of the shortest way
  pub shortest : (i : ℕ) → i < h.count → Shortest h (root_of h) i (distance_of h i)
  shortest i l =
      let w = near_way h s (distance_of h i) i l (distance i l).near in
      let is : w.0 ≡ distance_of h i = omega (arith, w.2, (distance i l).least w.0 (way_near h s i w.0 w.1)) in
      (subst (λ n. Way h (root_of h) i n) is w.1, λ m way. (distance i l).least m (way_near h s i m way))

  at_root : distance_of h (root_of h) ≡ 0
  unfolding is_near
  at_root = let least = (distance (root_of h) (root_lowest h s).0).least 0 (eq-eqb _ _ refl) in omega arith

  only_root : (i : ℕ) → i < h.count → distance_of h i ≡ 0 → i ≡ root_of h
  unfolding is_near
  only_root i l e = eqb-true _ _ (subst (λ d. is_near h d i ≡ true) e (distance i l).near)

  across : (i j : ℕ) → i < h.count → is_wired h i j ≡ true → distance_of h i ≤ distance_of h j + 1
  across i j l w =
      omega (arith, (distance i l).least (suc (distance_of h j)) (near_across h s (distance_of h j) i j w (distance j (s.within i j (l, w))).near))

  -- a lamp that is not the root has a neighbour that is one wire nearer
  nearer : (i d : ℕ) → i < h.count → distance_of h i ≡ suc d → (j : ℕ) × (is_wired h i j ≡ true) × (distance_of h j + 1 ≡ distance_of h i)
  nearer i d l e =
      ⊎_elim
      (λ near. absurd (omega (arith, (distance i l).least d near)))
      (λ f. (f.0, f.1, omega (arith, across i f.0 l f.1, (distance f.0 (s.within i f.0 (l, f.1))).least d f.2)))
      (near_cases h s d i (subst (λ k. is_near h k i ≡ true) e (distance i l).near))

  parent_of_root : parent_of h (root_of h) ≡ root_of h
  unfolding parent_of
  parent_of_root =
      first_none (λ j. eqb (distance_of h j + 1) (distance_of h (root_of h))) (root_of h) (h.neighbours (root_of h)) (λ j. ne_eqb _ _ (λ e. omega (arith, at_root)))

  parent : (i : ℕ) → i < h.count → (i ≡ root_of h → ⊥) → (is_wired h i (parent_of h i) ≡ true) × (distance_of h (parent_of h i) + 1 ≡ distance_of h i)
  unfolding parent_of
  parent i l other =
      let p = pred_of (distance_of h i) (positive (distance_of h i) (λ e. other (only_root i l e))) in
      let f = nearer i p.0 l p.1 in
      let test : ℕ → Bool = λ j. eqb (distance_of h j + 1) (distance_of h i) in
      let first = first_found test i (h.neighbours i) (any_from test (h.neighbours i) f.0 f.1 (eq-eqb _ _ f.2)) in
      (first.0, eqb-true _ _ first.1)

  pub facts : Facts h
  facts =
      record {
        lowest = root_lowest h s;
        below = λ i l. (distance i l).below;
        at_root = at_root;
        only_root = only_root;
        across = across;
        parent_of_root = parent_of_root;
        parent_wired = λ i l other. (parent i l other).0;
        parent_nearer = λ i l other. (parent i l other).1;
      }
