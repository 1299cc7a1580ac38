-- The lowest name, its distance and the parent: right at a lamp once they are right at the nearer ones and nothing stale is near.
use Rattle.std.proofs.Common.{◌≡◌, ℕ, suc, ◌+◌, ◌-◌, ◌<◌, ◌≤◌, Bool, true, false, eqb, sym, ap, ◌∙◌, subst, ⊎_elim, arith}
use Rattle.std.proofs.lemmas.Bool.{eqb-true, eqb-false, eq-eqb, cases_eq}
use Rattle.telling.specs.declared.Telling.{Telling}
use Rattle.protocol.specs.declared.work.Best.{Best}
use Rattle.protocol.specs.Rules.{further, beginning, best_of}
use Rattle.model.specs.Halls.{Hall, Way, Sound, own_of, is_wired}
use Rattle.model.specs.Nets.{row_from}
use Rattle.model.specs.Assignment.{root_of, distance_of, parent_of}
use Rattle.model.specs.Stages.{told_from, LeadsTo, Fresh, FreshOrFar}
use Rattle.model.proofs.Facts.{Facts}
use Rattle.model.proofs.Places.{any_from}
use Rattle.model.proofs.Distances.{facts, shortest}
use Rattle.model.proofs.Best.{Offers, through, best_kept, best_first}
use Rattle.model.proofs.Stale.{told_is, stale_climbs, less_far}

-- a telling of lamp i with the right best, distance and parent
pub record Placed (h : Hall) (i : ℕ) (t : Telling) : Type 0 where
  pub best : t.best ≡ h.name (root_of h)
  pub distance : t.distance ≡ distance_of h i
  pub parent : t.parent ≡ parent_of h i

-- the right best of lamp i
abbrev pub right_best : Hall → ℕ → Best
right_best h i = record { name = h.name (root_of h); distance = distance_of h i; parent = parent_of h i }

-- is j one wire nearer to the root than i
abbrev pub is_nearer : Hall → ℕ → ℕ → Bool
is_nearer h i j = eqb (distance_of h j + 1) (distance_of h i)

module _ (h : Hall) (s : Sound h) where
  abbrev f : Facts h
  f = facts h s

  same_best : (x d p y e q : ℕ) → x ≡ y → d ≡ e → p ≡ q → ◌≡◌ {A = Best} (record { name = x; distance = d; parent = p }) (record { name = y; distance = e; parent = q })
  same_best x d p y e q a b c = λ i. record { name = a i; distance = b i; parent = c i }

  module _ (i : ℕ) (heard : ℕ → Telling) (l : i < h.count) where
    abbrev Offered : ℕ → Type 0
    Offered j = Offers h.most heard (h.name (root_of h)) (distance_of h i) (is_nearer h i) j

    -- where just the nearer neighbours offer the lowest name at the right distance, and all others worse, the best is the right one
    pub best_is : ((j : ℕ) → is_wired h i j ≡ true → Offered j) → best_of (own_of h i) (row_from h i heard) ≡ right_best h i
    unfolding parent_of
    best_is offers =
        ⊎_elim
        (λ root.
        let name : h.name i ≡ h.name (root_of h) = ap h.name root in
        let distance : 0 ≡ distance_of h i = sym f.at_root ∙ ap (distance_of h) (sym root) in
        let parent : i ≡ parent_of h i = root ∙ sym f.parent_of_root ∙ ap (parent_of h) (sym root) in
        ap (λ b. through h.most heard b (h.neighbours i)) (same_best (h.name i) 0 i (h.name (root_of h)) (distance_of h i) (parent_of h i) name distance parent)
        ∙ best_kept h.most heard (h.name (root_of h)) (distance_of h i) (is_nearer h i) (parent_of h i) (h.neighbours i) offers)
        (λ other.
        best_first h.most heard (h.name (root_of h)) (distance_of h i) (is_nearer h i) i (h.neighbours i) (beginning (own_of h i))
        (f.lowest.1 i l, λ e. absurd (other (sym (s.names (root_of h) i (f.lowest.0, l, e))))) offers
        (any_from (is_nearer h i) (h.neighbours i) (parent_of h i) (f.parent_wired i l other) (eq-eqb _ _ (f.parent_nearer i l other))))
        (cases_eq i (root_of h))

    -- what a neighbour offers that has its right place
    pub offers_placed : (j : ℕ) → is_wired h i j ≡ true → Placed h j (heard j) → Offered j
    offers_placed j w p =
        record {
          these = λ t. (p.best, omega (arith, eqb-true _ _ t, p.distance), omega (arith, f.below i l, s.few));
          others = λ t near. (omega (arith, p.best), λ _. omega (arith, p.distance, f.across i j l w, eqb-false _ _ t));
        }

    -- what one offers of which only this is known: it is not stale, and it is right if it is nearer
    fresh_worse :
        (j : ℕ) → is_wired h i j ≡ true → Fresh h j (heard j) → is_nearer h i j ≡ false →
        (h.name (root_of h) ≤ (heard j).best) × (h.name (root_of h) ≡ (heard j).best → distance_of h i < further (heard j).distance)
    fresh_worse j w fresh t = (
      omega (arith, f.lowest.1 fresh.lamp fresh.there, fresh.name),
      λ e.
          let root : fresh.lamp ≡ root_of h = s.names fresh.lamp (root_of h) (fresh.there, f.lowest.0, fresh.name ∙ sym e) in
          let way : Way h (root_of h) j fresh.wires = subst (λ a. Way h a j fresh.wires) root fresh.way in
          omega (arith, (shortest h s j (s.within i j (l, w))).1 fresh.wires way, fresh.near, f.across i j l w, eqb-false _ _ t),
    )

    pub offers_fresh :
        (j : ℕ) → is_wired h i j ≡ true → FreshOrFar h (h.most - 1) j i (heard j) → (distance_of h j < distance_of h i → Placed h j (heard j)) → Offered j
    offers_fresh j w claim nearer =
        record {
          these = λ t. let p = nearer (omega (arith, eqb-true _ _ t)) in (offers_placed j w p).these t;
          others = λ t near. ⊎_elim (λ fresh. fresh_worse j w fresh t) (λ far. absurd (omega arith)) claim;
        }

    -- so what a lamp tells has its right place
    pub told_placed : ((j : ℕ) → is_wired h i j ≡ true → Offered j) → (j : ℕ) → is_wired h i j ≡ true → Placed h i (told_from h i heard j)
    told_placed offers j w =
        let is = told_is h i heard j w in
        let best = best_is offers in
        record {
          best = ap (λ t. t.best) is ∙ ap (λ b. b.name) best;
          distance = ap (λ t. t.distance) is ∙ ap (λ b. b.distance) best;
          parent = ap (λ t. t.parent) is ∙ ap (λ b. b.parent) best;
        }

  -- nothing stale is near, and lamps nearer than d wires have their right place
  abbrev pub Arrived : ℕ → ℕ → ℕ → Telling → Type 0
  Arrived d i j t = FreshOrFar h (h.most - 1) i j t × (distance_of h i < d → Placed h i t)

  pub arrival_climbs : (d : ℕ) → LeadsTo h (Arrived d) (Arrived (suc d))
  arrival_climbs d i heard l claims j w = (
    less_far h s (h.most - 1) i j (told_from h i heard j) (stale_climbs h s (h.most - 1) i heard l (λ k v. (claims k v).0) j w),
    λ near. told_placed i heard l (λ k v. offers_fresh i heard l k v (claims k v).0 (λ nearer. (claims k v).1 (omega arith))) j w,
  )

  pub arrived_less : (d i j : ℕ) (t : Telling) → Arrived (suc d) i j t → Arrived d i j t
  arrived_less d i j t a = (a.0, λ near. a.1 (omega arith))
