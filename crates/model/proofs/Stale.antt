-- Stale information: one work leaves none that is told nearer than one wire more.
use Rattle.std.proofs.Common.{◌≡◌, ℕ, zero, suc, ◌<◌, ◌≤◌, true, ◌⊎◌, sym, refl, ap, ◌∙◌, inl, inr, arith}
use Rattle.telling.specs.declared.Telling.{Telling}
use Rattle.protocol.specs.declared.work.Best.{Best}
use Rattle.protocol.specs.Rules.{further, beginning, best_of, told_to}
use Rattle.model.specs.Halls.{Hall, Way, stay, step, Sound, own_of, is_wired}
use Rattle.model.specs.Nets.{row_from}
use Rattle.model.specs.Stages.{told_from, LeadsTo, FreshOrFar}
use Rattle.model.proofs.Best.{in_row, at_place, best_by}

-- what lamp i tells a neighbour is what the rules say of its row
pub told_is :
    (h : Hall) (i : ℕ) (heard : ℕ → Telling) (j : ℕ) → is_wired h i j ≡ true →
    told_from h i heard j ≡ told_to (own_of h i) (row_from h i heard) (in_row heard j)
told_is h i heard j w = at_place (told_to (own_of h i) (row_from h i heard)) heard (h.neighbours i) j w

module _ (h : Hall) (s : Sound h) where
  -- a best that is not stale, or at least k wires off
  abbrev FreshBest : ℕ → ℕ → Best → Type 0
  FreshBest k i b =
      ((a : ℕ) × (m : ℕ) × (a < h.count) × (h.name a ≡ b.name) × Way h a i m × (m ≤ b.distance)) ⊎ (k ≤ b.distance)

  one_further : (k i j : ℕ) (t : Telling) → i < h.count → is_wired h i j ≡ true → FreshOrFar h k j i t →
      FreshBest (suc k) i (record { name = t.best; distance = further t.distance; parent = j })
  one_further k i j t l w (inl f) = inl (f.lamp, suc f.wires, f.there, f.name, step f.way (s.both i j (l, w)), omega (arith, f.near))
  one_further k i j t l w (inr far) = inr (omega arith)

  fresh_best :
      (k i : ℕ) (heard : ℕ → Telling) → i < h.count → ((j : ℕ) → is_wired h i j ≡ true → FreshOrFar h k j i (heard j)) →
      FreshBest (suc k) i (best_of (own_of h i) (row_from h i heard))
  fresh_best k i heard l claims =
      best_by h.most heard (FreshBest (suc k) i) (h.neighbours i) (beginning (own_of h i)) (inl (i, zero, l, refl, stay, omega arith))
      (λ j w _. one_further k i j (heard j) l w (claims j w))

  fresh_telling : (k i j : ℕ) (b : Best) (t : Telling) → t.best ≡ b.name → t.distance ≡ b.distance → FreshBest k i b → FreshOrFar h k i j t
  fresh_telling k i j b t name distance (inl f) =
      inl (record { lamp = f.0; there = f.2; name = f.3 ∙ sym name; wires = f.1; way = f.4; near = omega (arith, f.5) })
  fresh_telling k i j b t name distance (inr far) = inr (omega arith)

  -- one work makes what is stale one wire further
  pub stale_climbs : (k : ℕ) → LeadsTo h (FreshOrFar h k) (FreshOrFar h (suc k))
  stale_climbs k i heard l claims j w =
      let is = told_is h i heard j w in
      fresh_telling (suc k) i j (best_of (own_of h i) (row_from h i heard)) (told_from h i heard j)
      (ap (λ t. t.best) is) (ap (λ t. t.distance) is) (fresh_best k i heard l claims)

  pub less_far : (k i j : ℕ) (t : Telling) → FreshOrFar h (suc k) i j t → FreshOrFar h k i j t
  less_far k i j t (inl f) = inl f
  less_far k i j t (inr far) = inr (omega arith)

  pub not_near : (i j : ℕ) (t : Telling) → FreshOrFar h 0 i j t
  not_near i j t = inr (omega arith)
