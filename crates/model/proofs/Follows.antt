-- Sizes, totals and numbers: right at a lamp once its neighbours have their right places and what it takes from them is right.
use Rattle.std.proofs.Common.{◌≡◌, ℕ, suc, ◌+◌, ◌<◌, ◌≤◌, min, Bool, true, false, cond, ◌&&◌, eqb, List, filter, sym, refl, ap, ◌∙◌, ⊎_elim, arith}
use Rattle.std.proofs.lemmas.Bool.{eqb-true, eq-eqb, ne_eqb, cases_eq, cond-true, cond-false}
use Rattle.telling.specs.declared.Telling.{Telling}
use Rattle.protocol.specs.Rows.{Neighbour}
use Rattle.protocol.specs.Rules.{further, best_of, is_child, sizes, telling_at, numbers_of, worked, is_before, given_to}
use Rattle.model.specs.Halls.{Hall, Sound, own_of, is_wired}
use Rattle.model.specs.Nets.{row_from}
use Rattle.model.specs.Assignment.{root_of, distance_of, parent_of, size_of, number_of, right_numbers, right_telling}
use Rattle.model.specs.Stages.{told_from, LeadsTo}
use Rattle.model.specs.Trees.{Counted}
use Rattle.model.proofs.Facts.{Facts}
use Rattle.model.proofs.Distances.{facts}
use Rattle.model.proofs.Trees.{trees_count}
use Rattle.model.proofs.Walk.{child_deeper, size_is, number_is, number_of_root, tree, counted, sizes_are, sizes_before_are}
use Rattle.model.proofs.Best.{in_row, said_at}
use Rattle.model.proofs.Stale.{told_is}
use Rattle.model.proofs.Arrival.{Placed, right_best, best_is, offers_placed, told_placed}

only_first : (a b c : Bool) → (a ≡ true → b ≡ true) → (a ≡ true → c ≡ true) → (a && b && c) ≡ a
only_first true b c f g = ap (λ x. x && c) (f refl) ∙ g refl
only_first false b c f g = refl

same_cond : (b : Bool) (x y z : ℕ) → (b ≡ true → x ≡ y) → cond b x z ≡ cond b y z
same_cond true x y z f = f refl
same_cond false x y z f = refl

-- what the teller at i says of itself and gives j is right
pub record Counts (h : Hall) (i j : ℕ) (t : Telling) : Type 0 where
  pub total : t.total ≡ h.count
  pub number : t.number ≡ number_of h i
  pub given : t.given ≡ cond (eqb (parent_of h j) i) (number_of h j) 0

module _ (h : Hall) (s : Sound h) where
  abbrev f : Facts h
  f = facts h s

  pub count : Counted (tree h) (size_of h) (number_of h)
  count = counted h s f trees_count

  -- no cut is made
  fits : (i : ℕ) → i < h.count → (size_of h i ≤ h.most) × (number_of h i ≤ h.most)
  fits i l = (omega (arith, count.within i l, s.few), omega (arith, count.within i l, s.few))

  -- a lamp of which all neighbours have told their right places
  module _ (i : ℕ) (heard : ℕ → Telling) (l : i < h.count) (placed : (j : ℕ) → is_wired h i j ≡ true → Placed h j (heard j)) where
    abbrev row : List Neighbour
    row = row_from h i heard

    pub best : best_of (own_of h i) row ≡ right_best h i
    best = best_is h s i heard l (λ j w. offers_placed h s i heard l j w (placed j w))

    -- just the true children are taken for children
    child : (j : ℕ) → is_wired h i j ≡ true → is_child i (right_best h i) (heard j) ≡ eqb (parent_of h j) i
    child j w =
        let p = placed j w in
        ap (λ x. eqb x i && eqb (heard j).best (h.name (root_of h)) && eqb (heard j).distance (further (distance_of h i))) p.parent
        ∙ only_first (eqb (parent_of h j) i) _ _ (λ _. eq-eqb _ _ p.best) (λ t. eq-eqb _ _ (p.distance ∙ child_deeper h s f i j l w (eqb-true _ _ t)))

    -- the parent, by whether the lamp is the root
    itself : i ≡ root_of h → eqb (parent_of h i) i ≡ true
    itself root = eq-eqb _ _ (ap (parent_of h) root ∙ f.parent_of_root ∙ sym root)

    another : (i ≡ root_of h → ⊥) → eqb (parent_of h i) i ≡ false
    another other = ne_eqb _ _ (λ e. omega (arith, f.parent_nearer i l other, ap (distance_of h) e))

    module _ (sized : (j : ℕ) → is_wired h i j ≡ true → parent_of h j ≡ i → (heard j).size ≡ size_of h j) where
      size : min h.most (1 + sizes i (right_best h i) row) ≡ size_of h i
      size = omega (arith, sizes_are h i (right_best h i) heard child sized, size_is h s f i l, (fits i l).0)

      pub size_right : (worked (own_of h i) row).size ≡ size_of h i
      size_right = ap (λ b. (numbers_of (own_of h i) b row).size) best ∙ size

      -- what the parent has told
      module _ (parent : (i ≡ root_of h → ⊥) → Counts h (parent_of h i) i (heard (parent_of h i))) where
        from_parent : (other : i ≡ root_of h → ⊥) → telling_at (parent_of h i) row ≡ heard (parent_of h i)
        from_parent other = said_at heard (h.neighbours i) (parent_of h i) (f.parent_wired i l other)

        pub total_right : (worked (own_of h i) row).total ≡ h.count
        total_right =
            ap (λ b. (numbers_of (own_of h i) b row).total) best
            ∙ ⊎_elim
            (λ root. cond-true _ _ _ (itself root) ∙ size ∙ ap (size_of h) root ∙ count.all)
            (λ other.
            cond-false _ _ _ (another other)
            ∙ omega (arith, ap (λ t. t.total) (from_parent other), (parent other).total, s.few))
            (cases_eq i (root_of h))

        pub number_right : (worked (own_of h i) row).number ≡ number_of h i
        number_right =
            ap (λ b. (numbers_of (own_of h i) b row).number) best
            ∙ ⊎_elim
            (λ root. cond-true _ _ _ (itself root) ∙ sym (ap (number_of h) root ∙ number_of_root h s f))
            (λ other.
            let given : (heard (parent_of h i)).given ≡ number_of h i = (parent other).given ∙ cond-true (eqb (parent_of h i) (parent_of h i)) (number_of h i) 0 (eq-eqb (parent_of h i) (parent_of h i) refl) in
            cond-false _ _ _ (another other) ∙ omega (arith, ap (λ t. t.given) (from_parent other), given, (fits i l).1))
            (cases_eq i (root_of h))

        given_right :
            (j : ℕ) → is_wired h i j ≡ true → given_to (own_of h i) (right_best h i) (number_of h i) row (in_row heard j) ≡ cond (eqb (parent_of h j) i) (number_of h j) 0
        given_right j w =
            let before = sizes_before_are h i (right_best h i) heard child sized j (heard j) in
            let next : ℕ = min h.most (number_of h i + 1 + sizes i (right_best h i) (filter (λ m. is_before m (in_row heard j)) row)) in
            ap (λ b. cond b next 0) (child j w)
            ∙ same_cond (eqb (parent_of h j) i) next (number_of h j) 0
            (λ t. omega (arith, before, number_is h s f i j l w (eqb-true _ _ t), (fits j (s.within i j (l, w))).1))

        -- what the lamp tells is right
        pub told_counts : (j : ℕ) → is_wired h i j ≡ true → Counts h i j (told_from h i heard j)
        told_counts j w =
            let is = told_is h i heard j w in
            record {
              total = ap (λ t. t.total) is ∙ total_right;
              number = ap (λ t. t.number) is ∙ number_right;
              given =
                  ap (λ t. t.given) is
                  ∙ ap (λ b. given_to (own_of h i) b (worked (own_of h i) row).number row (in_row heard j)) best
                  ∙ ap (λ x. given_to (own_of h i) (right_best h i) x row (in_row heard j)) number_right ∙ given_right j w;
            }

        -- and so is what it has worked out
        pub worked_right : worked (own_of h i) row ≡ right_numbers h i
        unfolding right_numbers
        worked_right = λ k.
            record {
              best = (best k).name;
              distance = (best k).distance;
              parent = (best k).parent;
              size = size_right k;
              total = total_right k;
              number = number_right k;
            }

  -- lamps have their right places, and so far down have their right size
  abbrev pub Sized : ℕ → ℕ → ℕ → Telling → Type 0
  Sized e i j t = Placed h i t × (h.most ≤ distance_of h i + e → t.size ≡ size_of h i)

  pub sized_climbs : (e : ℕ) → LeadsTo h (Sized e) (Sized (suc e))
  sized_climbs e i heard l claims j w =
      let placed : (k : ℕ) → is_wired h i k ≡ true → Placed h k (heard k) = λ k v. (claims k v).0 in (
        told_placed h s i heard l (λ k v. offers_placed h s i heard l k v (placed k v)) j w,
        λ deep.
            ap (λ t. t.size) (told_is h i heard j w)
            ∙ size_right i heard l placed (λ k v child. (claims k v).1 (omega (arith, child_deeper h s f i k l v child))),
      )

  pub sized_less : (e i j : ℕ) (t : Telling) → Sized (suc e) i j t → Sized e i j t
  sized_less e i j t a = (a.0, λ deep. a.1 (omega arith))

  -- lamps have their right places and sizes, and those nearer than d wires the right total and number, and give the right ones
  abbrev pub NumberedTo : ℕ → ℕ → ℕ → Telling → Type 0
  NumberedTo d i j t = Placed h i t × (t.size ≡ size_of h i) × (distance_of h i < d → Counts h i j t)

  pub numbers_climb : (d : ℕ) → LeadsTo h (NumberedTo d) (NumberedTo (suc d))
  numbers_climb d i heard l claims j w =
      let placed : (k : ℕ) → is_wired h i k ≡ true → Placed h k (heard k) = λ k v. (claims k v).0 in
      let sized : (k : ℕ) → is_wired h i k ≡ true → parent_of h k ≡ i → (heard k).size ≡ size_of h k = λ k v _. (claims k v).1 in (
        told_placed h s i heard l (λ k v. offers_placed h s i heard l k v (placed k v)) j w,
        ap (λ t. t.size) (told_is h i heard j w) ∙ size_right i heard l placed sized,
        λ near.
            told_counts i heard l placed sized
            (λ other. (claims (parent_of h i) (f.parent_wired i l other)).2 (omega (arith, f.parent_nearer i l other))) j w,
      )

  pub numbered_less : (d i j : ℕ) (t : Telling) → NumberedTo (suc d) i j t → NumberedTo d i j t
  numbered_less d i j t a = (a.0, a.1, λ near. a.2 (omega arith))

  -- then nothing of a telling is left to be wrong
  pub telling_right : (i j : ℕ) (t : Telling) → Placed h i t → t.size ≡ size_of h i → Counts h i j t → t ≡ right_telling h i j
  unfolding right_numbers
  telling_right i j t p size c = λ k.
      record {
        best = p.best k;
        distance = p.distance k;
        parent = p.parent k;
        size = size k;
        total = c.total k;
        number = c.number k;
        given = c.given k;
      }

  -- and the other way round
  pub right_numbered : (d i j : ℕ) (t : Telling) → t ≡ right_telling h i j → NumberedTo d i j t
  unfolding right_numbers
  right_numbered d i j t e = (
    record { best = ap (λ t. t.best) e; distance = ap (λ t. t.distance) e; parent = ap (λ t. t.parent) e },
    ap (λ t. t.size) e,
    λ _. record { total = ap (λ t. t.total) e; number = ap (λ t. t.number) e; given = ap (λ t. t.given) e },
  )
