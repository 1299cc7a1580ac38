-- In a row the neighbours before the k-th are the first k.
use Rattle.std.proofs.Common.{◌≡◌, ℕ, zero, suc, ◌+◌, ◌<◌, ◌≤◌, min, true, cond, ltb, List, [], ◌∷◌, length, get_or, take, filter, refl, ap, ◌∙◌, arith}
use Rattle.std.proofs.lemmas.Bool.{and_parts, leb-true, lt-ltb, le-ltb, cond-true, cond-false}
use Rattle.telling.specs.declared.Telling.{Telling}
use Rattle.protocol.specs.declared.facts.Own.{Own}
use Rattle.protocol.specs.declared.facts.Site.{Site}
use Rattle.protocol.specs.declared.state.Lamp.{Lamp}
use Rattle.protocol.specs.declared.work.Best.{Best}
use Rattle.protocol.specs.Wiring.{rises_from}
use Rattle.protocol.specs.Rows.{Neighbour, row_of, places_of, remembered}
use Rattle.protocol.specs.Rules.{nothing, is_before, is_child, sizes, given_to}
use Rattle.protocol.proofs.Rows.{get_or-row, length-places_of, remembered_at}

module _ (own : Own) where
  head_from : (low p : ℕ) (ps : List ℕ) → rises_from own low (p ∷ ps) ≡ true → low ≤ p
  unfolding rises_from
  head_from low p ps r = leb-true _ _ (and_parts _ _ (and_parts _ _ (and_parts _ _ r).0).0).0

  tail_from : (low p : ℕ) (ps : List ℕ) → rises_from own low (p ∷ ps) ≡ true → rises_from own (p + 1) ps ≡ true
  unfolding rises_from
  tail_from low p ps r = (and_parts _ _ r).1

  at_from : (low : ℕ) (ps : List ℕ) (k : ℕ) → rises_from own low ps ≡ true → k < length ps → low ≤ get_or ps k 0
  at_from low [] k r h = absurd (omega arith)
  at_from low (p ∷ ps) zero r h = head_from low p ps r
  at_from low (p ∷ ps) (suc k) r h = omega (arith, head_from low p ps r, at_from (p + 1) ps k (tail_from low p ps r) (omega arith))

  none_before :
      (low x : ℕ) (ps : List ℕ) (ts : List Telling) → rises_from own low ps ≡ true → x ≤ low → filter (λ m. ltb m.place x) (row_of ps ts) ≡ []
  unfolding row_of
  none_before low x [] ts r h = refl
  none_before low x (p ∷ ps) [] r h = refl
  none_before low x (p ∷ ps) (t ∷ ts) r h =
      cond-false _ _ _ (le-ltb p x (omega (arith, head_from low p ps r))) ∙
      none_before (p + 1) x ps ts (tail_from low p ps r) (omega (arith, head_from low p ps r))

  kept_before :
      (low : ℕ) (ps : List ℕ) (ts : List Telling) (k : ℕ) → rises_from own low ps ≡ true → length ps ≤ length ts → k < length ps →
      filter (λ m. ltb m.place (get_or ps k 0)) (row_of ps ts) ≡ take k (row_of ps ts)
  unfolding row_of
  kept_before low [] ts k r l h = absurd (omega arith)
  kept_before low (p ∷ ps) [] k r l h = absurd (omega arith)
  kept_before low (p ∷ ps) (t ∷ ts) zero r l h =
      cond-false _ _ _ (le-ltb p p (omega arith)) ∙ none_before (p + 1) p ps ts (tail_from low p ps r) (omega arith)
  kept_before low (p ∷ ps) (t ∷ ts) (suc k) r l h =
      cond-true _ _ _ (lt-ltb p (get_or ps k 0) (omega (arith, at_from (p + 1) ps k (tail_from low p ps r) (omega arith)))) ∙
      ap (λ row. record { place = p; telling = t } ∷ row) (kept_before (p + 1) ps ts k (tail_from low p ps r) (omega arith) (omega arith))

rises_of : (s : Site) → rises_from s.own 0 (places_of s) ≡ true
rises_of s = (and_parts _ _ s.sound).1

module _ (l : Lamp) (heard : length l.heard ≡ 16) where
  pub before_kth :
      (k : ℕ) (d : Neighbour) → k < l.site.wires → filter (λ m. is_before m (get_or (remembered l) k d)) (remembered l) ≡ take k (remembered l)
  before_kth k d h =
      let long = length-places_of l.site in
      let rises : rises_from l.site.own 0 (places_of l.site) ≡ true = rises_of l.site in
      let at = get_or-row (places_of l.site) l.heard k d nothing (omega (arith, l.site.few)) (omega arith) in
      ap (λ n. filter (λ m. is_before m n) (remembered l)) at ∙
      kept_before l.site.own 0 (places_of l.site) l.heard k rises (omega (arith, l.site.few)) (omega arith)

  -- the number that the rules give the k-th neighbour, from the next number to give there
  pub given_kth :
      (b : Best) (number k next x : ℕ) (d : Neighbour) → k < l.site.wires →
      next ≡ min l.site.own.most (number + 1 + sizes l.site.own.place b (take k (remembered l))) →
      x ≡ cond (is_child l.site.own.place b (get_or l.heard k nothing)) next 0 → x ≡ given_to l.site.own b number (remembered l) (get_or (remembered l) k d)
  given_kth b number k next x d h e g =
      let child = ap (λ n. is_child l.site.own.place b n.telling) (remembered_at l heard k d nothing h) in
      let before = ap (sizes l.site.own.place b) (before_kth k d h) in
      cc
