-- The nodes of a tree, numbered by the sizes of what is below them: each has a number of its own, below their count.
use Rattle.std.proofs.Common.{◌≡◌, ℕ, zero, suc, ◌+◌, ◌<◌, ◌≤◌, Bool, true, false, cond, not, ◌&&◌, eqb, ◌⊎◌, sym, refl, ap, ◌∙◌, subst, inl, inr, ⊎_elim, arith}
use Rattle.std.proofs.lemmas.Bool.{cases_eq, cases_lt, eq-eqb, ne_eqb, and_parts, and_from, and_right, not_from_false, cond-true, cond-false}
use Rattle.model.specs.Trees.{sum_below, Tree, is_child_of, IsTree, child_sizes, sizes_before, Numbered, TreesCount}
use Rattle.model.proofs.Sums.{sum_same, sum_plus, sum_ones, sum_none, sum_only, sum_swap, sum_tests_more}

-- a node that is not the root is the child of one node, and the root is nobody's
parent_once : (root : Bool) (p x n : ℕ) → p < n → sum_below (λ a. cond (not root && eqb p a) x 0) n + cond root x 0 ≡ x
parent_once true p x n l = omega (arith, sum_none (λ a. 0) n (λ a m. refl))
parent_once false p x n l =
    let here : cond (eqb p p) x 0 ≡ x = cond-true (eqb p p) x 0 (eq-eqb p p refl) in
    omega (arith, sum_only (λ a. cond (eqb p a) x 0) p n l (λ a m other. cond-false (eqb p a) x 0 (ne_eqb p a (λ e. other (sym e)))))

module _ (t : Tree) (tree : IsTree t) where
  -- what holds of the root, and of a node if it holds of its parent, holds of all
  module _ (P : ℕ → Type 0) (top : P t.root) (down : (a : ℕ) → a < t.count → (a ≡ t.root → ⊥) → P (t.parent a) → P a) where
    climb : (d a : ℕ) → t.depth a ≤ d → a < t.count → P a
    climb zero a h l = ⊎_elim (λ e. subst P (sym e) top) (λ other. absurd (omega (arith, tree.deeper a l other))) (cases_eq a t.root)
    climb (suc d) a h l =
        ⊎_elim
        (λ e. subst P (sym e) top)
        (λ other. down a l other (climb d (t.parent a) (omega (arith, tree.deeper a l other)) (tree.within a l)))
        (cases_eq a t.root)

    by_parents : (a : ℕ) → a < t.count → P a
    by_parents a l = climb (t.depth a) a (omega arith) l

  root_lowest : (a : ℕ) → a < t.count → t.depth t.root ≤ t.depth a
  root_lowest = by_parents (λ a. t.depth t.root ≤ t.depth a) (omega arith) (λ a l other h. omega (arith, tree.deeper a l other))

-- a node has the numbers from its own on, as many as its size
module _ (number size : ℕ → ℕ) (a b : ℕ) where
  -- a's are among b's, and not the first of them
  abbrev Inside : Type 0
  Inside = (number b < number a) × (number a + size a ≤ number b + size b)

  -- a and b share none
  abbrev Apart : Type 0
  Apart = (number a + size a ≤ number b) ⊎ (number b + size b ≤ number a)

module _ (t : Tree) (size number : ℕ → ℕ) (tree : IsTree t) (numbered : Numbered t size number) where
  -- every node but the root is counted in its parent's size, and each counts 1 of its own
  root_size : size t.root ≡ t.count
  root_size =
      let n : ℕ = t.count in
      let part : ℕ → ℕ → ℕ = λ a c. cond (is_child_of t a c) (size c) 0 in
      let above : ℕ → ℕ = λ c. sum_below (λ a. part a c) n in
      let top : ℕ → ℕ = λ c. cond (eqb c t.root) (size c) 0 in
      let rows : sum_below size n ≡ sum_below (λ a. 1 + sum_below (part a) n) n = sum_same size (λ a. 1 + sum_below (part a) n) n numbered.sizes in
      let apart : sum_below (λ a. 1 + sum_below (part a) n) n ≡ sum_below (λ a. 1) n + sum_below (λ a. sum_below (part a) n) n =
      sum_plus (λ a. 1) (λ a. sum_below (part a) n) n in
      let turned : sum_below (λ a. sum_below (part a) n) n ≡ sum_below above n = sum_swap part n n in
      let columns : sum_below (λ c. above c + top c) n ≡ sum_below size n =
      sum_same (λ c. above c + top c) size n (λ c l. parent_once (eqb c t.root) (t.parent c) (size c) n (tree.within c l)) in
      let split : sum_below (λ c. above c + top c) n ≡ sum_below above n + sum_below top n = sum_plus above top n in
      let only : sum_below top n ≡ top t.root = sum_only top t.root n tree.rooted (λ c l other. cond-false _ _ _ (ne_eqb c t.root other)) in
      let its : top t.root ≡ size t.root = cond-true _ _ _ (eq-eqb t.root t.root refl) in
      omega (arith, sum_ones n)

  is_child : (a : ℕ) → (a ≡ t.root → ⊥) → is_child_of t (t.parent a) a ≡ true
  is_child a other = and_from _ _ (not_from_false _ (ne_eqb a t.root other)) (eq-eqb (t.parent a) (t.parent a) refl)

  -- the sizes of the siblings before a, and a's own, are among those that pass a test
  sizes_more :
      (p a : ℕ) (test : ℕ → Bool) → a < t.count → ((c : ℕ) → (is_child_of t p c && t.before c a) ≡ true → test c ≡ true) → test a ≡ true →
      sizes_before t size p a + size a ≤ sum_below (λ c. cond (test c) (size c) 0) t.count
  sizes_more p a test l passes within =
      let out : (is_child_of t p a && t.before a a) ≡ false = and_right (is_child_of t p a) (t.before a a) (tree.strict a) in
      sum_tests_more (λ c. is_child_of t p c && t.before c a) test size passes a t.count l out within

  -- a node's numbers are inside its parent's
  inside_parent : (a : ℕ) → a < t.count → (a ≡ t.root → ⊥) → Inside number size a (t.parent a)
  inside_parent a l other =
      let p : ℕ = t.parent a in
      let more : sizes_before t size p a + size a ≤ child_sizes t size p =
      sizes_more p a (is_child_of t p) l (λ c e. (and_parts (is_child_of t p c) (t.before c a) e).0) (is_child a other) in
      omega (arith, numbered.numbers a l other, numbered.sizes p (tree.within a l))

  -- of two siblings all that the first has is below what the second has
  follows :
      (a b : ℕ) → a < t.count → b < t.count → (a ≡ t.root → ⊥) → (b ≡ t.root → ⊥) → t.parent a ≡ t.parent b → t.before a b ≡ true →
      number a + size a ≤ number b
  follows a b l m other other' same first =
      let p : ℕ = t.parent b in
      let child : is_child_of t p a ≡ true = ap (λ q. is_child_of t q a) (sym same) ∙ is_child a other in
      let more : sizes_before t size p a + size a ≤ sizes_before t size p b =
      sizes_more p a (λ c. is_child_of t p c && t.before c b) l passes (and_from _ _ child first) in
      let its : number a ≡ number p + 1 + sizes_before t size p a = numbered.numbers a l other ∙ ap (λ q. number q + 1 + sizes_before t size q a) same in
      omega (arith, numbered.numbers b m other')
    where
      passes : (c : ℕ) → (is_child_of t (t.parent b) c && t.before c a) ≡ true → (is_child_of t (t.parent b) c && t.before c b) ≡ true
      passes c e = let both = and_parts _ _ e in and_from _ _ both.0 (tree.ordered c a b both.1 first)

  siblings_apart :
      (a b : ℕ) → a < t.count → b < t.count → (a ≡ t.root → ⊥) → (b ≡ t.root → ⊥) → t.parent a ≡ t.parent b → (a ≡ b → ⊥) → Apart number size a b
  siblings_apart a b l m other other' same differ =
      ⊎_elim
      (λ first. inl (follows a b l m other other' same first))
      (λ first. inr (follows b a m l other' other (sym same) first))
      (tree.total a b differ)

  some_size : (a : ℕ) → a < t.count → 1 ≤ size a
  some_size a l = omega (arith, numbered.sizes a l)

  -- no node's numbers reach beyond the root's
  numbers_within : (a : ℕ) → a < t.count → number a + size a ≤ t.count
  numbers_within =
      by_parents
      t
      tree
      (λ a. number a + size a ≤ t.count)
      (omega (arith, root_size, numbered.first))
      (λ a l other h. omega (arith, (inside_parent a l other).1))

  -- of two nodes the deeper one is inside the other, or they are apart; and those of one depth are apart
  abbrev Placed : ℕ → ℕ → Type 0
  Placed a b = Apart number size a b ⊎ ((t.depth a < t.depth b) × Inside number size b a)

  -- b, where that is known of b's parent and of every node that is no deeper than the parent
  module _
      (a b : ℕ) (l : a < t.count) (m : b < t.count) (other : b ≡ t.root → ⊥)
      (up : (c : ℕ) → c < t.count → t.depth c ≤ t.depth (t.parent b) → (c ≡ t.parent b → ⊥) → Placed c (t.parent b)) where
    inside_apart : Placed a (t.parent b) → Placed a b
    inside_apart (inl (inl h)) = inl (inl (omega (arith, inside_parent b m other)))
    inside_apart (inl (inr h)) = inl (inr (omega (arith, inside_parent b m other)))
    inside_apart (inr h) = inr (omega (arith, tree.deeper b m other), omega (arith, inside_parent b m other))

    placed_less : t.depth a < t.depth b → Placed a b
    placed_less less =
        ⊎_elim
        (λ e. subst (λ p. Placed p b) (sym e) (inr (omega (arith, tree.deeper b m other), inside_parent b m other)))
        (λ differ. inside_apart (up a l (omega (arith, tree.deeper b m other)) differ))
        (cases_eq a (t.parent b))

    module _ (other' : a ≡ t.root → ⊥) (same : t.depth a ≡ t.depth b) where
      both_apart : Placed (t.parent a) (t.parent b) → Placed a b
      both_apart (inl (inl h)) = inl (inl (omega (arith, inside_parent a l other', inside_parent b m other)))
      both_apart (inl (inr h)) = inl (inr (omega (arith, inside_parent a l other', inside_parent b m other)))
      both_apart (inr h) = absurd (omega (arith, tree.deeper a l other', tree.deeper b m other))

      placed_level : (a ≡ b → ⊥) → Placed a b
      placed_level differ =
          ⊎_elim
          (λ e. inl (siblings_apart a b l m other' other e differ))
          (λ e. both_apart (up (t.parent a) (tree.within a l) (omega (arith, tree.deeper a l other', tree.deeper b m other)) e))
          (cases_eq (t.parent a) (t.parent b))

    placed_child : t.depth a ≤ t.depth b → (a ≡ b → ⊥) → Placed a b
    placed_child h differ =
        let low : t.depth t.root < t.depth b = omega (arith, tree.deeper b m other, root_lowest t tree (t.parent b) (tree.within b m)) in
        ⊎_elim
        placed_less
        (λ same. placed_level (λ e. omega (arith, ap t.depth e)) (omega arith) differ)
        (cases_lt (t.depth a) (t.depth b))

  placed : (b : ℕ) → b < t.count → (a : ℕ) → a < t.count → t.depth a ≤ t.depth b → (a ≡ b → ⊥) → Placed a b
  placed =
      by_parents
      t
      tree
      (λ b. (a : ℕ) → a < t.count → t.depth a ≤ t.depth b → (a ≡ b → ⊥) → Placed a b)
      (λ a l h differ. absurd (omega (arith, root_lowest t tree (t.parent a) (tree.within a l), tree.deeper a l differ)))
      (λ b m other up a l. placed_child a b l m other up)

  placed_differ : (a b : ℕ) → a < t.count → b < t.count → Placed a b → number a ≡ number b → ⊥
  placed_differ a b l m h e = omega (arith, some_size a l, some_size b m)

  numbers_differ : (a b : ℕ) → a < t.count → b < t.count → (a ≡ b → ⊥) → number a ≡ number b → ⊥
  numbers_differ a b l m differ e =
      ⊎_elim
      (λ h. placed_differ a b l m (placed b m a l (omega arith) differ) e)
      (λ h. placed_differ b a m l (placed a l b m h (λ d. differ (sym d))) (sym e))
      (cases_lt (t.depth a) (t.depth b))

  numbers_own : (a b : ℕ) → a < t.count → b < t.count → number a ≡ number b → a ≡ b
  numbers_own a b l m e = ⊎_elim (λ same. same) (λ differ. absurd (numbers_differ a b l m differ e)) (cases_eq a b)

pub trees_count : TreesCount
trees_count t size number tree numbered = record {
  all = root_size t size number tree numbered;
  some = some_size t size number tree numbered;
  within = numbers_within t size number tree numbered;
  own = numbers_own t size number tree numbered;
}
