-- The best that a lamp finds, going through its neighbours.
use Rattle.std.proofs.Common.{◌≡◌, ℕ, ◌<◌, ◌≤◌, Bool, true, false, ◌&&◌, ◌||◌, eqb, ltb, List, [], ◌∷◌, map, fold, sym, refl, ap, ◌∙◌, ⊎_elim, arith}
use Rattle.std.proofs.lemmas.Bool.{or_cases, or_left, or_right, and_parts, and_from, eqb-true, eq-eqb, lt-ltb, ltb-true, cases_Bool, cases_eq, both_ways, cond-true, cond-false, cond_both}
use Rattle.telling.specs.declared.Telling.{Telling}
use Rattle.protocol.specs.declared.work.Best.{Best}
use Rattle.protocol.specs.Rows.{Neighbour, has_wire}
use Rattle.protocol.specs.Rules.{further, is_better, compared, telling_at}
use Rattle.model.specs.Assignment.{any_of, first_that}

-- what is remembered, by place, as a row
abbrev pub in_row : (ℕ → Telling) → ℕ → Neighbour
in_row heard j = record { place = j; telling = heard j }

-- the row's telling at a place of the list
pub at_place : (f : Neighbour → Telling) (heard : ℕ → Telling) (ps : List ℕ) (j : ℕ) → has_wire ps j ≡ true →
    telling_at j (map (λ n. record { place = n.place; telling = f n }) (map (in_row heard) ps)) ≡ f (in_row heard j)
unfolding has_wire telling_at
at_place f heard [] j w = absurd (both_ways _ refl w)
at_place f heard (q ∷ ps) j w =
    ⊎_elim
    (λ e. cond-true _ _ _ e ∙ ap (λ p. f (in_row heard p)) (eqb-true q j e))
    (λ e. cond-false _ _ _ e ∙ at_place f heard ps j (⊎_elim (λ t. absurd (both_ways _ e t)) (λ t. t) (or_cases _ _ w)))
    (cases_Bool (eqb q j))

pub said_at : (heard : ℕ → Telling) (ps : List ℕ) (j : ℕ) → has_wire ps j ≡ true → telling_at j (map (in_row heard) ps) ≡ heard j
unfolding has_wire telling_at
said_at heard [] j w = absurd (both_ways _ refl w)
said_at heard (q ∷ ps) j w =
    ⊎_elim
    (λ e. cond-true _ _ _ e ∙ ap heard (eqb-true q j e))
    (λ e. cond-false _ _ _ e ∙ said_at heard ps j (⊎_elim (λ t. absurd (both_ways _ e t)) (λ t. t) (or_cases _ _ w)))
    (cases_Bool (eqb q j))

-- a name at a distance is preferred to another: it is lower, or the same and nearer
abbrev pub Before : ℕ → ℕ → ℕ → ℕ → Type 0
Before x d y e = (x ≤ y) × (x ≡ y → d < e)

-- the test of the rules, over plain numbers
abbrev test : ℕ → ℕ → ℕ → ℕ → ℕ → Bool
test most x d y e = ltb d most && (ltb x y || (eqb x y && ltb d e))

better_passes : (most x d y e : ℕ) → d < most → Before x d y e → test most x d y e ≡ true
better_passes most x d y e near before =
    and_from _ _ (lt-ltb d most near)
    (⊎_elim
    (λ same. or_right _ _ (and_from _ _ (eq-eqb x y same) (lt-ltb d e (before.1 same))))
    (λ other. or_left _ _ (lt-ltb x y (omega (arith, before.0))))
    (cases_eq x y))

not_better : (most x d y e : ℕ) → (d < most → (y ≤ x) × (y ≡ x → e ≤ d)) → test most x d y e ≡ false
not_better most x d y e worse =
    ⊎_elim
    (λ t.
    let near = ltb-true d most (and_parts _ _ t).0 in
    absurd
    (⊎_elim
    (λ lower. let l : x < y = ltb-true x y lower in omega (arith, (worse near).0))
    (λ nearer.
    let same : x ≡ y = eqb-true x y (and_parts _ _ nearer).0 in
    let l : d < e = ltb-true d e (and_parts _ _ nearer).1 in
    omega (arith, (worse near).1 (sym same)))
    (or_cases _ _ (and_parts _ _ t).1)))
    (λ f. f)
    (cases_Bool (test most x d y e))

module _ (most : ℕ) (heard : ℕ → Telling) where
  -- what a neighbour offers
  abbrev pub offered : ℕ → Best
  offered j = record { name = (heard j).best; distance = further (heard j).distance; parent = j }

  -- going through places
  abbrev pub through : Best → List ℕ → Best
  through b ps = fold (compared most) b (map (in_row heard) ps)

  -- the best is what it began with, or some neighbour's offer that is near enough: what holds of all of these holds of it
  pub best_by :
      (P : Best → Type 0) (ps : List ℕ) (b : Best) → P b → ((j : ℕ) → has_wire ps j ≡ true → further (heard j).distance < most → P (offered j)) → P (through b ps)
  unfolding has_wire compared
  best_by P [] b start each = start
  best_by P (j ∷ ps) b start each =
      best_by P ps (compared most b (in_row heard j))
      (cond_both (is_better most (heard j) b) (offered j) b P (λ t. each j (or_left _ _ (eq-eqb j j refl)) (ltb-true _ _ (and_parts _ _ t).0)) (λ _. start))
      (λ k w. each k (or_right _ _ w))

  -- which of the places offer just the name x at the distance d, where all others that are near enough offer worse
  module _ (x d : ℕ) (is : ℕ → Bool) where
    pub record Offers (j : ℕ) : Type 0 where
      pub these : is j ≡ true → ((heard j).best ≡ x) × (further (heard j).distance ≡ d) × (d < most)
      pub others : is j ≡ false → further (heard j).distance < most → Before x d (heard j).best (further (heard j).distance)

    abbrev found : ℕ → Best
    found p = record { name = x; distance = d; parent = p }

    no_worse : (j : ℕ) → Offers j → further (heard j).distance < most → (x ≤ (heard j).best) × (x ≡ (heard j).best → d ≤ further (heard j).distance)
    no_worse j o near =
        ⊎_elim
        (λ t. (omega (arith, (o.these t).0), λ _. omega (arith, (o.these t).1)))
        (λ f. ((o.others f near).0, λ e. omega (arith, (o.others f near).1 e)))
        (cases_Bool (is j))

    -- once found, it is kept
    pub best_kept : (p : ℕ) (ps : List ℕ) → ((j : ℕ) → has_wire ps j ≡ true → Offers j) → through (found p) ps ≡ found p
    unfolding has_wire compared
    best_kept p [] offers = refl
    best_kept p (j ∷ ps) offers =
        ap (λ b. through b ps)
        (cond-false _ (offered j) (found p) (not_better most (heard j).best (further (heard j).distance) x d (no_worse j (offers j (or_left _ _ (eq-eqb j j refl))))))
        ∙ best_kept p ps (λ k w. offers k (or_right _ _ w))

    -- and the first that offers it is taken
    pub best_first :
        (other : ℕ) (ps : List ℕ) (b : Best) → Before x d b.name b.distance → ((j : ℕ) → has_wire ps j ≡ true → Offers j) → any_of is ps ≡ true →
        through b ps ≡ found (first_that is other ps)
    unfolding has_wire any_of first_that compared
    best_first other [] b worse offers some = absurd (both_ways _ refl some)
    best_first other (j ∷ ps) b worse offers some =
        let here = offers j (or_left _ _ (eq-eqb j j refl)) in
        let rest : (k : ℕ) → has_wire ps k ≡ true → Offers k = λ k w. offers k (or_right _ _ w) in
        ⊎_elim
        (λ t.
        let o = here.these t in
        let better : is_better most (heard j) b ≡ true =
        better_passes most (heard j).best (further (heard j).distance) b.name b.distance
        (omega (arith, o.1, o.2)) (omega (arith, o.0, worse.0), λ e. omega (arith, o.1, worse.1 (sym o.0 ∙ e))) in
        let taken : offered j ≡ found j = λ i. record { name = o.0 i; distance = o.1 i; parent = j } in
        ap (λ c. through c ps) (cond-true _ (offered j) b better ∙ taken) ∙ best_kept j ps rest ∙ ap found (sym (cond-true (is j) j _ t)))
        (λ f.
        best_first other ps (compared most b (in_row heard j))
        (cond_both (is_better most (heard j) b) (offered j) b (λ c. Before x d c.name c.distance)
        (λ t. here.others f (ltb-true _ _ (and_parts _ _ t).0)) (λ _. worse))
        rest (⊎_elim (λ t. absurd (both_ways _ f t)) (λ t. t) (or_cases _ _ some))
        ∙ ap found (sym (cond-false (is j) j _ f)))
        (cases_Bool (is j))
