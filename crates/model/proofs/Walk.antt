-- The tree of parents in a sound hall: its sizes, and its numbers in the order of a walk.
use Rattle.std.proofs.Common.{◌≡◌, ℕ, zero, suc, ◌+◌, ◌<◌, ◌≤◌, Bool, true, false, cond, not, ◌&&◌, eqb, ltb, sum_by, filter, sym, refl, ap, ◌∙◌, inl, inr, ⊎_elim, add-one, arith}
use Rattle.std.proofs.lemmas.Bool.{cases_eq, cases_order, cases_Bool, both_ways, and_parts, and_right, not_from_true, not_from_false, eqb-true, eq-eqb, ne_eqb, ltb-true, lt-ltb, le-ltb}
use Rattle.telling.specs.declared.Telling.{Telling}
use Rattle.protocol.specs.declared.work.Best.{Best}
use Rattle.protocol.specs.Rows.{Neighbour}
use Rattle.protocol.specs.Rules.{is_child, child_size, sizes, is_before}
use Rattle.protocol.specs.Wiring.{rises_from}
use Rattle.model.specs.Halls.{Hall, Sound, own_of, is_wired}
use Rattle.model.specs.Nets.{row_from}
use Rattle.model.specs.Assignment.{root_of, distance_of, parent_of, children_of, size_within, size_of, sizes_before, number_at, number_of}
use Rattle.model.specs.Trees.{Tree, is_child_of, IsTree, child_sizes, sizes_before as tree_sizes_before, Numbered, Counted, TreesCount}
use Rattle.model.proofs.Facts.{Facts}
use Rattle.model.proofs.Sums.{sum_same}
use Rattle.model.proofs.Lists.{sum_kept, sum_mapped, sum_passing, rising_from, sum_places}

cond_and : (a b : Bool) (x : ℕ) → cond a (cond b x 0) 0 ≡ cond (a && b) x 0
cond_and true b x = refl
cond_and false b x = refl

and_alike : (x y b : Bool) → (b ≡ true → x ≡ y) → (x && b) ≡ (y && b)
and_alike x y true same = ap (λ z. z && true) (same refl)
and_alike x y false same = and_right x false refl ∙ sym (and_right y false refl)

-- a test within another, the other way round
cond_turned : (t a b : Bool) (x y : ℕ) → a ≡ b → (b ≡ true → x ≡ y) → cond t (cond a x 0) 0 ≡ cond b (cond t y 0) 0
cond_turned true a true x y e same = ap (λ z. cond z x 0) e ∙ same refl
cond_turned true a false x y e same = ap (λ z. cond z x 0) e
cond_turned false a true x y e same = refl
cond_turned false a false x y e same = refl

-- the tree of parents, siblings by rising place
abbrev pub tree : Hall → Tree
tree h = record { count = h.count; root = root_of h; depth = distance_of h; parent = parent_of h; before = ltb }

-- sums over the neighbours of a lamp, and over its children
module _ (h : Hall) (i : ℕ) where
  -- two functions that agree on the children of a lamp have one sum over them
  sum_children :
      (f g : ℕ → ℕ) → ((j : ℕ) → is_wired h i j ≡ true → parent_of h j ≡ i → f j ≡ g j) → sum_by f (children_of h i) ≡ sum_by g (children_of h i)
  sum_children f g same =
      let test : ℕ → Bool = λ j. eqb (parent_of h j) i in
      sum_kept f test (h.neighbours i) ∙
      sum_passing (λ j. cond (test j) (f j) 0) g test (h.neighbours i)
      (λ j w. cond_turned true (test j) (test j) (f j) (g j) refl (λ e. same j w (eqb-true (parent_of h j) i e)))

  -- what a lamp adds up over its row: those that it takes for children are its children, and told their sizes
  module _ (b : Best) (heard : ℕ → Telling) (child : (j : ℕ) → is_wired h i j ≡ true → is_child i b (heard j) ≡ eqb (parent_of h j) i) where
    module _ (told-size : (j : ℕ) → is_wired h i j ≡ true → parent_of h j ≡ i → (heard j).size ≡ size_of h j) where
      added :
          (test : ℕ → Bool) →
          sum_by (λ n. cond (test n.place) (child_size i b n.telling) 0) (row_from h i heard) ≡ sum_by (λ j. cond (test j) (size_of h j) 0) (children_of h i)
      added test =
          sum_mapped (λ (n : Neighbour). cond (test n.place) (child_size i b n.telling) 0) (λ j. record { place = j; telling = heard j }) (h.neighbours i) ∙
          sum_passing (λ j. cond (test j) (child_size i b (heard j)) 0) (λ j. cond (test j) (size_of h j) 0) (λ j. eqb (parent_of h j) i) (h.neighbours i)
          (λ j w.
          cond_turned (test j) (is_child i b (heard j)) (eqb (parent_of h j) i) (heard j).size (size_of h j) (child j w)
          (λ e. told-size j w (eqb-true (parent_of h j) i e)))

      pub sizes_are : sizes i b (row_from h i heard) ≡ sum_by (size_of h) (children_of h i)
      sizes_are = added (λ _. true)

      pub sizes_before_are :
          (k : ℕ) (u : Telling) → sizes i b (filter (λ m. is_before m (record { place = k; telling = u })) (row_from h i heard)) ≡ sizes_before h i k
      sizes_before_are k u =
          sum_kept (λ (n : Neighbour). child_size i b n.telling) (λ n. ltb n.place k) (row_from h i heard) ∙
          added (λ j. ltb j k) ∙
          sym (sum_kept (size_of h) (λ j. ltb j k) (children_of h i))

module _ (h : Hall) (s : Sound h) (f : Facts h) where
  rises : (i : ℕ) → i < h.count → rises_from (own_of h i) 0 (h.neighbours i) ≡ true
  rises i l = (and_parts _ (rises_from (own_of h i) 0 (h.neighbours i)) (s.sites i l)).1

  -- no lamp is wired to itself
  pub not_itself : (i : ℕ) → i < h.count → is_wired h i i ≡ false
  not_itself i l = ⊎_elim (λ t. absurd ((rising_from (own_of h i) (h.neighbours i) 0 i (rises i l) t).1 refl)) (λ e. e) (cases_Bool (is_wired h i i))

  -- so a child is not the root, which is its own parent,
  not_root : (i j : ℕ) → i < h.count → is_wired h i j ≡ true → parent_of h j ≡ i → j ≡ root_of h → ⊥
  not_root i j l w p is =
      let same : j ≡ i = is ∙ sym f.parent_of_root ∙ sym (ap (parent_of h) is) ∙ p in
      both_ways _ (not_itself i l) (ap (is_wired h i) (sym same) ∙ w)

  -- and is one wire further from the root
  pub child_deeper : (i j : ℕ) → i < h.count → is_wired h i j ≡ true → parent_of h j ≡ i → distance_of h j ≡ distance_of h i + 1
  child_deeper i j l w p = sym (f.parent_nearer j (s.within i j (l, w)) (not_root i j l w p)) ∙ ap (λ k. distance_of h k + 1) p

  -- where the levels and the distance make up the count, no level is left out
  deep_enough : (levels i : ℕ) → i < h.count → h.count ≤ levels + distance_of h i → size_within h (suc levels) i ≡ size_within h levels i
  unfolding size_within
  deep_enough zero i l deep = absurd (omega (arith, f.below i l))
  deep_enough (suc levels) i l deep =
      ap (λ n. 1 + n)
      (sum_children h i (size_within h (suc levels)) (size_within h levels)
      (λ j w p. deep_enough levels j (s.within i j (l, w)) (omega (arith, child_deeper i j l w p))))

  -- a lamp's size is one and its children's sizes
  pub size_is : (i : ℕ) → i < h.count → size_of h i ≡ 1 + sum_by (size_of h) (children_of h i)
  unfolding size_within
  size_is i l = sym (deep_enough h.count i l (omega arith))

  pub number_of_root : number_of h (root_of h) ≡ 0
  unfolding number_at
  number_of_root = ap (λ d. number_at h d (root_of h)) f.at_root

  -- a child's number is the next behind its parent and the siblings before it with all below them
  pub number_is : (i j : ℕ) → i < h.count → is_wired h i j ≡ true → parent_of h j ≡ i → number_of h j ≡ number_of h i + 1 + sizes_before h i j
  unfolding number_at
  number_is i j l w p =
      ap (λ d. number_at h d j) (child_deeper i j l w p ∙ add-one _) ∙ ap (λ k. number_at h (distance_of h i) k + 1 + sizes_before h k j) p

  wired_from_parent : (j : ℕ) → j < h.count → (j ≡ root_of h → ⊥) → is_wired h (parent_of h j) j ≡ true
  wired_from_parent j l other = s.both j (parent_of h j) (l, f.parent_wired j l other)

  parent_within : (j : ℕ) → j < h.count → parent_of h j < h.count
  parent_within j l =
      ⊎_elim
      (λ is. omega (arith, ap (parent_of h) is ∙ f.parent_of_root, f.lowest.0))
      (λ other. s.within j (parent_of h j) (l, f.parent_wired j l other))
      (cases_eq j (root_of h))

  pub is_tree : IsTree (tree h)
  is_tree =
      record {
        rooted = f.lowest.0;
        within = parent_within;
        deeper = λ a l other. sym (f.parent_nearer a l other);
        strict = λ a. le-ltb a a (omega arith);
        ordered = λ a b c x y. lt-ltb a c (omega (arith, ltb-true a b x, ltb-true b c y));
        total = λ a b other. ⊎_elim (λ same. absurd (other same)) (⊎_elim (λ l. inl (lt-ltb a b l)) (λ l. inr (lt-ltb b a l))) (cases_order a b);
      }

  -- the children of a lamp among its neighbours are those in the tree
  same_children : (i c : ℕ) → i < h.count → c < h.count → (is_wired h i c && eqb (parent_of h c) i) ≡ is_child_of (tree h) i c
  same_children i c l k =
      and_alike (is_wired h i c) (not (eqb c (root_of h))) (eqb (parent_of h c) i)
      (λ e.
      let p = eqb-true (parent_of h c) i e in
      ⊎_elim
      (λ is. ⊎_elim (λ w. absurd (not_root i c l w p is)) (λ w. w ∙ sym (not_from_true _ (eq-eqb c (root_of h) is))) (cases_Bool (is_wired h i c)))
      (λ other. ap (λ q. is_wired h q c) (sym p) ∙ wired_from_parent c k other ∙ sym (not_from_false _ (ne_eqb c (root_of h) other)))
      (cases_eq c (root_of h)))

  -- and so are sums over them, and over those before a place
  sum_in_tree : (g : ℕ → ℕ) (i : ℕ) → i < h.count → sum_by g (children_of h i) ≡ child_sizes (tree h) g i
  sum_in_tree g i l =
      let test : ℕ → Bool = λ j. eqb (parent_of h j) i in
      sum_kept g test (h.neighbours i) ∙
      sum_places (own_of h i) (λ c. cond (test c) (g c) 0) h.count (h.neighbours i) 0 (rises i l) (λ c w. s.within i c (l, w)) ∙
      sum_same _ _ h.count (λ c k. cond_and (is_wired h i c) (test c) (g c) ∙ ap (λ b. cond b (g c) 0) (same_children i c l k))

  before_in_tree : (i j : ℕ) → i < h.count → sizes_before h i j ≡ tree_sizes_before (tree h) (size_of h) i j
  before_in_tree i j l =
      sum_kept (size_of h) (λ c. ltb c j) (children_of h i) ∙
      sum_in_tree (λ c. cond (ltb c j) (size_of h c) 0) i l ∙
      sum_same _ _ h.count (λ c k. cond_and (is_child_of (tree h) i c) (ltb c j) (size_of h c))

  -- sizes and numbers are those of the tree
  pub numbered : Numbered (tree h) (size_of h) (number_of h)
  numbered =
      record {
        sizes = λ a l. size_is a l ∙ ap (λ n. 1 + n) (sum_in_tree (size_of h) a l);
        first = number_of_root;
        numbers = λ a l other.
            number_is (parent_of h a) a (parent_within a l) (wired_from_parent a l other) refl ∙
            ap (λ n. number_of h (parent_of h a) + 1 + n) (before_in_tree (parent_of h a) a (parent_within a l));
      }

  pub counted : TreesCount → Counted (tree h) (size_of h) (number_of h)
  counted count = count (tree h) (size_of h) (number_of h) is_tree numbered
