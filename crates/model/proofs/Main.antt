-- The stages one after the other, and the promise.
use Rattle.std.proofs.Common.{◌≡◌, ℕ, ◌-◌, ◌<◌, ◌∙◌, arith}
use Rattle.telling.specs.declared.Telling.{Telling}
use Rattle.model.specs.Halls.{Hall, Sound}
use Rattle.model.specs.Nets.{Net}
use Rattle.model.specs.Assignment.{right_numbers, right_telling}
use Rattle.model.specs.Stages.{Throughout, LeadsTo, FreshOrFar}
use Rattle.model.specs.Stable.{Stable}
use Rattle.model.proofs.Facts.{Facts}
use Rattle.model.proofs.Distances.{facts}
use Rattle.model.proofs.Rests.{stable_climb}
use Rattle.model.proofs.Stale.{stale_climbs, not_near}
use Rattle.model.proofs.Arrival.{Arrived, arrival_climbs}
use Rattle.model.proofs.Follows.{worked_right, Sized, sized_climbs, NumberedTo, numbers_climb, telling_right, right_numbered}

module _ (h : Hall) (s : Sound h) where
  abbrev f : Facts h
  f = facts h s

  -- a claim that follows from another for lamps of the hall
  follows : (C D : ℕ → ℕ → Telling → Type 0) → ((i j : ℕ) (t : Telling) → i < h.count → C i j t → D i j t) → (n : Net) → Throughout h C n → Throughout h D n
  follows C D so n all =
      record {
        memories = λ j i fit. so i j (n.heard j i) (s.within j i fit) (all.memories j i fit);
        wires = λ j i fit t e. so i j t (s.within j i fit) (all.wires j i fit t e);
      }

  abbrev Rightly : ℕ → ℕ → Telling → Type 0
  Rightly i j t = t ≡ right_telling h i j

  -- where one stage ends the next begins
  begin : (n : Net) → Throughout h (FreshOrFar h 0) n
  begin n = record { memories = λ j i fit. not_near h s i j (n.heard j i); wires = λ j i fit t e. not_near h s i j t }

  to_arrived : (i j : ℕ) (t : Telling) → i < h.count → FreshOrFar h (h.most - 1) i j t → Arrived h s 0 i j t
  to_arrived i j t l fresh = (fresh, λ near. absurd (omega arith))

  to_sized : (i j : ℕ) (t : Telling) → i < h.count → Arrived h s h.most i j t → Sized h s 0 i j t
  to_sized i j t l a = (a.1 (omega (arith, f.below i l, s.few)), λ deep. absurd (omega (arith, f.below i l, s.few)))

  to_numbered : (i j : ℕ) (t : Telling) → i < h.count → Sized h s h.most i j t → NumberedTo h s 0 i j t
  to_numbered i j t l a = (a.0, a.1 (omega arith), λ near. absurd (omega arith))

  to_right : (i j : ℕ) (t : Telling) → i < h.count → NumberedTo h s h.most i j t → Rightly i j t
  to_right i j t l a = telling_right h s i j t a.0 a.1 (a.2 (omega (arith, f.below i l, s.few)))

  -- right tellings lead to right tellings
  right_leads : LeadsTo h Rightly Rightly
  right_leads i heard l claims j w =
      let told = numbers_climb h s h.most i heard l (λ k v. right_numbered h s h.most k i (heard k) (claims k v)) j w in
      telling_right h s i j _ told.0 told.1 (told.2 (omega (arith, f.below i l, s.few)))

  -- A stable net passes all stages at once.
  module _ (n : Net) (stable : Stable h n) where
    stable_right : Throughout h Rightly n
    stable_right =
        let fresh = stable_climb h s (FreshOrFar h) (stale_climbs h s) (h.most - 1) n stable (begin n) in
        let arrived = stable_climb h s (Arrived h s) (arrival_climbs h s) h.most n stable (follows _ _ to_arrived n fresh) in
        let sized = stable_climb h s (Sized h s) (sized_climbs h s) h.most n stable (follows _ _ to_sized n arrived) in
        let numbered = stable_climb h s (NumberedTo h s) (numbers_climb h s) h.most n stable (follows _ _ to_numbered n sized) in
        follows (NumberedTo h s h.most) Rightly to_right n numbered

    stable_lamps : (a : ℕ) → a < h.count → n.lamp a ≡ right_numbers h a
    stable_lamps a l =
        let claim = λ (j : ℕ) (w : _). right_numbered h s h.most j a (n.heard a j) (stable_right.memories a j (l, w)) in
        stable.lamps a l
        ∙ worked_right h s a (n.heard a) l (λ j w. (claim j w).0) (λ j w _. (claim j w).1)
        (λ other.
        let w = f.parent_wired a l other in
        (claim _ w).2 (omega (arith, f.below _ (s.within a _ (l, w)), s.few)))
