-- A row by its places and tellings, and a lamp's row by its wires.
use Rattle.std.proofs.Common.{◌≡◌, ℕ, zero, suc, ◌+◌, ◌<◌, ◌≤◌, List, [], ◌∷◌, length, get_or, take, fold, sym, refl, ap, ◌∙◌, ◌⊎◌, ⊎_elim, arith, length-take}
use Rattle.std.proofs.lemmas.List.{take_all, get_or-take}
use Rattle.std.proofs.lemmas.List.Sums.{fold_more as folded_more}
use Rattle.telling.specs.declared.Telling.{Telling}
use Rattle.protocol.specs.declared.facts.Site.{Site}
use Rattle.protocol.specs.declared.state.Lamp.{Lamp}
use Rattle.protocol.specs.declared.work.Best.{Best}
use Rattle.protocol.specs.Rules.{nothing, child_size, sizes}
use Rattle.protocol.specs.Rows.{Neighbour, row_of, places_of, remembered}

length-row_le : (ps : List ℕ) (ts : List Telling) → length (row_of ps ts) ≤ length ps
unfolding row_of
length-row_le [] ts = omega arith
length-row_le (p ∷ ps) [] = omega arith
length-row_le (p ∷ ps) (t ∷ ts) = omega (arith, length-row_le ps ts)

pub length-row : (ps : List ℕ) (ts : List Telling) → length ps ≤ length ts → length (row_of ps ts) ≡ length ps
unfolding row_of
length-row [] ts h = refl
length-row (p ∷ ps) [] h = absurd (omega arith)
length-row (p ∷ ps) (t ∷ ts) h = ap suc (length-row ps ts (omega arith))

pub get_or-row :
    (ps : List ℕ) (ts : List Telling) (k : ℕ) (d : Neighbour) (t : Telling) → length ps ≤ length ts → k < length ps →
    get_or (row_of ps ts) k d ≡ record { place = get_or ps k 0; telling = get_or ts k t }
unfolding row_of
get_or-row [] ts k d t h l = absurd (omega arith)
get_or-row (p ∷ ps) [] k d t h l = absurd (omega arith)
get_or-row (p ∷ ps) (t' ∷ ts) zero d t h l = refl
get_or-row (p ∷ ps) (t' ∷ ts) (suc k) d t h l = get_or-row ps ts k d t (omega arith) (omega arith)

-- a row with a neighbour at its head is gone through from there
pub fold-row :
    {Y : Type 0} (f : Y → Neighbour → Y) (y : Y) {ps qs : List ℕ} {ts us : List Telling} (p : ℕ) (t : Telling) → ps ≡ p ∷ qs → ts ≡ t ∷ us →
    fold f y (row_of ps ts) ≡ fold f (f y (record { place = p; telling = t })) (row_of qs us)
unfolding row_of
fold-row f y p t e g = rw (e, g) refl

-- with no places left, or no tellings, no neighbours are left
pub row_ended : (ps : List ℕ) (ts : List Telling) → (length ps ≡ 0) ⊎ (length ts ≡ 0) → row_of ps ts ≡ []
unfolding row_of
row_ended [] ts e = refl
row_ended (p ∷ ps) [] e = refl
row_ended (p ∷ ps) (t ∷ ts) e = absurd (⊎_elim (λ h. omega (arith, h)) (λ h. omega (arith, h)) e)

-- a loop over the wires that has passed the last one has gone through the whole row
pub whole_row : (l : Lamp) (k : ℕ) → l.site.wires ≤ k → take k (remembered l) ≡ remembered l
whole_row l k h =
    let short : length (places_of l.site) ≤ l.site.wires = simp length-take (omega arith) in
    take_all k (remembered l) (omega (arith, length-row_le (places_of l.site) l.heard))

pub length-places_of : (s : Site) → length (places_of s) ≡ s.wires
length-places_of s = simp length-take (omega (arith, s.full, s.few))

module _ (l : Lamp) (heard : length l.heard ≡ 16) where
  long : length (places_of l.site) ≡ l.site.wires
  long = length-places_of l.site

  pub length-remembered : length (remembered l) ≡ l.site.wires
  length-remembered = length-row (places_of l.site) l.heard (omega (arith, long, l.site.few)) ∙ long

  -- the tellings by wire, one for each
  pub length-tellings : {ts : List Telling} → ts ≡ take l.site.wires l.heard → length ts ≡ l.site.wires
  length-tellings e = rw e (simp length-take (omega (arith, l.site.few)))

  pub telling_kth : {ts : List Telling} (k : ℕ) → ts ≡ take l.site.wires l.heard → k < l.site.wires → get_or ts k nothing ≡ get_or l.heard k nothing
  telling_kth k e h = rw e (get_or-take l.site.wires l.heard k nothing h)

  -- the k-th neighbour
  pub remembered_at :
      (k : ℕ) (d : Neighbour) (t : Telling) → k < l.site.wires →
      get_or (remembered l) k d ≡ record { place = get_or l.site.places k 0; telling = get_or l.heard k t }
  remembered_at k d t h =
      get_or-row (places_of l.site) l.heard k d t (omega (arith, long, l.site.few)) (omega (arith, long)) ∙
      ap (λ p. record { place = p; telling = get_or l.heard k t }) (get_or-take l.site.wires l.site.places k 0 h)

  -- one neighbour more in a loop that folds the row
  pub fold_more :
      {Y : Type 0} (f : Y → Neighbour → Y) (y : Y) (k : ℕ) {a b : Y} → k < l.site.wires → a ≡ fold f y (take k (remembered l)) →
      b ≡ f a (record { place = get_or l.site.places k 0; telling = get_or l.heard k nothing }) → b ≡ fold f y (take (k + 1) (remembered l))
  fold_more f y k h e g =
      let n : Neighbour = record { place = get_or l.site.places k 0; telling = get_or l.heard k nothing } in
      g ∙ ap (λ x. f x n) e ∙ sym (folded_more f y (remembered l) k n (omega (arith, length-remembered)) ∙ ap (f (fold f y (take k (remembered l)))) (remembered_at k n nothing h))

  pub sizes_more :
      (place : ℕ) (b : Best) (k : ℕ) → k < l.site.wires →
      sizes place b (take k (remembered l)) + child_size place b (get_or l.heard k nothing) ≡ sizes place b (take (k + 1) (remembered l))
  sizes_more place b k h = fold_more (λ a n. a + child_size place b n.telling) 0 k h refl refl
