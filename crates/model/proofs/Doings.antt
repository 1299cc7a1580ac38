-- Doings one after the other: rounds in lists, what one doing does to lamps, wires and memories, and what is true after many.
use Rattle.std.proofs.Common.{◌≡◌, ℕ, zero, suc, ◌+◌, ◌<◌, true, ◌&&◌, eqb, List, [], ◌∷◌, ◌++◌, length, sym, refl, ap, ◌∙◌, subst, subst₂, append_assoc, arith}
use Rattle.std.specs.List.{HoldsAt, ContainsAt}
use Rattle.std.proofs.ByRecursion.{All-append}
use Rattle.std.proofs.lemmas.Bool.{eqb-true, eq-eqb, and_parts, and_from, cond-true, cond_both}
use Rattle.telling.specs.declared.Telling.{Telling}
use Rattle.telling.specs.declared.frame.Reading.{Reading}
use Rattle.telling.specs.declared.frame.Reading.TheVariants.{Told, Noise}
use Rattle.protocol.specs.declared.state.Numbers.{Numbers}
use Rattle.protocol.specs.Rules.{worked}
use Rattle.model.specs.declared.Doing.{Doing}
use Rattle.model.specs.declared.Doing.TheVariants.{Work, Hear}
use Rattle.model.specs.Halls.{Hall, Sound, own_of, is_wired}
use Rattle.model.specs.Nets.{Net, row_in, after_hearing, did, ran}
use Rattle.model.specs.Rounds.{Fits, AllFit, Round, Rounds, flat}
use Rattle.model.specs.Stages.{told_from}

pub flat_append : (xs ys : List (List Doing)) → flat (xs ++ ys) ≡ flat xs ++ flat ys
unfolding flat
flat_append [] ys = refl
flat_append (r ∷ xs) ys = ap (λ ds. r ++ ds) (flat_append xs ys) ∙ sym (append_assoc r (flat xs) (flat ys))

module _ (h : Hall) where
  pub ran_append : (xs ys : List Doing) (n : Net) → ran h (xs ++ ys) n ≡ ran h ys (ran h xs n)
  unfolding ran
  ran_append [] ys n = refl
  ran_append (d ∷ xs) ys n = ran_append xs ys (did h d n)

  -- so many rounds, and so many more
  pub rounds_apart :
      (a b : ℕ) (rs : List (List Doing)) → Rounds h (a + b) rs →
      (xs : List (List Doing)) × (ys : List (List Doing)) × (rs ≡ xs ++ ys) × Rounds h a xs × Rounds h b ys
  unfolding Rounds
  rounds_apart zero b rs all = let e : 0 + b ≡ b = omega arith in ([], rs, refl, tt, subst (λ k. Rounds h k rs) e all)
  rounds_apart (suc a) b [] all = let e : suc a + b ≡ suc (a + b) = omega arith in absurd (subst (λ k. Rounds h k []) e all)
  rounds_apart (suc a) b (r ∷ rs) all =
      let e : suc a + b ≡ suc (a + b) = omega arith in
      let p : Round h r × Rounds h (a + b) rs = subst (λ k. Rounds h k (r ∷ rs)) e all in
      let rest = rounds_apart a b rs p.1 in
      (r ∷ rest.0, rest.1, ap (λ qs. r ∷ qs) rest.2, (p.0, rest.3), rest.4)

  pub rounds_fit : (a : ℕ) (rs : List (List Doing)) → Rounds h a rs → AllFit h (flat rs)
  unfolding Rounds flat
  rounds_fit zero [] all = tt
  rounds_fit zero (r ∷ rs) all = absurd all
  rounds_fit (suc a) [] all = absurd all
  rounds_fit (suc a) (r ∷ rs) all = All-append (Fits h) r (flat rs) all.0.fits (rounds_fit a rs all.1)

  -- what some rounds lead to, and from there some more
  pub after_both :
      (A B C : Net → Type 0) (a b : ℕ) → ((n : Net) (rs : List (List Doing)) → Rounds h a rs → A n → B (ran h (flat rs) n)) →
      ((n : Net) (rs : List (List Doing)) → Rounds h b rs → B n → C (ran h (flat rs) n)) →
      (n : Net) (rs : List (List Doing)) → Rounds h (a + b) rs → A n → C (ran h (flat rs) n)
  after_both A B C a b first more n rs all start =
      let p = rounds_apart a b rs all in
      let same : ran h (flat rs) n ≡ ran h (flat p.1) (ran h (flat p.0) n) =
      ap (λ qs. ran h (flat qs) n) p.2 ∙ ap (λ ds. ran h ds n) (flat_append p.0 p.1) ∙ ran_append (flat p.0) (flat p.1) n in
      subst C (sym same) (more (ran h (flat p.0) n) p.1 p.4 (first n p.0 p.3 start))

  -- no rounds change nothing
  pub after_none : (A : Net → Type 0) (n : Net) (rs : List (List Doing)) → Rounds h 0 rs → A n → A (ran h (flat rs) n)
  unfolding Rounds flat ran
  after_none A n [] all start = start
  after_none A n (r ∷ rs) all start = absurd all

  -- what every doing keeps is there after any doings
  pub keeps :
      (A : Net → Type 0) → ((d : Doing) → Fits h d → (n : Net) → A n → A (did h d n)) → (ds : List Doing) → AllFit h ds → (n : Net) → A n → A (ran h ds n)
  unfolding ran
  keeps A keep [] fit n a = a
  keeps A keep (d ∷ ds) fit n a = keeps A keep ds fit.1 (did h d n) (keep d fit.0 n a)

  -- what one doing brings about and every doing keeps is there after all doings that have that one
  module _ (A G : Net → Type 0) (keep : (d : Doing) → Fits h d → (n : Net) → A n → A (did h d n)) where
    module _ (still : (d : Doing) → Fits h d → (n : Net) → A n → G n → G (did h d n)) (d : Doing) (made : (n : Net) → A n → G (did h d n)) where
      made_at : (ds : List Doing) (k : ℕ) → k < length ds → HoldsAt (λ y. y ≡ d) ds k → AllFit h ds → (n : Net) → A n → G (ran h ds n)
      unfolding ran
      made_at [] k l is fit n a = absurd (omega arith)
      made_at (x ∷ ds) zero l is fit n a =
          let here : G (did h x n) = subst (λ y. G (did h y n)) (sym (is d)) (made n a) in
          (keeps (λ m. A m × G m) (λ y f m p. (keep y f m p.0, still y f m p.0 p.1)) ds fit.1 (did h x n) (keep x fit.0 n a, here)).1
      made_at (x ∷ ds) (suc k) l is fit n a = made_at ds k (omega arith) is fit.1 (did h x n) (keep x fit.0 n a)

      pub made_in : (ds : List Doing) → AllFit h ds → ContainsAt ds d → (n : Net) → A n → G (ran h ds n)
      made_in ds fit has n a = made_at ds has.0 has.1 has.2 fit n a

-- what is remembered after hearing: what was told, or what was remembered before
heard_after_hearing : (P : Telling → Type 0) (r : Reading) (before : Telling) → ((t : Telling) → r ≡ Told t → P t) → P before → P (after_hearing r before)
heard_after_hearing P (Told t) before new old = new t refl
heard_after_hearing P Noise before new old = old

-- What one doing leaves of lamps, wires and memories: what was there, or what the doing makes of them.
module _ (h : Hall) (s : Sound h) where
  pub lamp_did :
      (P : Numbers → Type 0) (d : Doing) → Fits h d → (n : Net) (k : ℕ) → (k < h.count → P (worked (own_of h k) (row_in h n k))) → P (n.lamp k) →
      P ((did h d n).lamp k)
  unfolding did
  lamp_did P (Hear j i) fit n k new old = old
  lamp_did P (Work i) fit n k new old =
      cond_both (eqb k i) (worked (own_of h i) (row_in h n i)) (n.lamp k) P
      (λ e.
      let at : k ≡ i = eqb-true k i e in
      subst (λ x. P (worked (own_of h x) (row_in h n x))) at (new (subst (λ x. x < h.count) (sym at) fit)))
      (λ _. old)

  pub line_did :
      (P : Reading → Type 0) (d : Doing) → Fits h d → (n : Net) (j i : ℕ) → (Fits h (Hear j i) → P (Told (told_from h i (n.heard i) j))) → P (n.line i j) →
      P ((did h d n).line i j)
  unfolding did
  line_did P (Hear l k) fit n j i new old = old
  line_did P (Work k) fit n j i new old =
      cond_both (eqb i k && is_wired h k j) (Told (told_from h k (n.heard k) j)) (n.line i j) P
      (λ e.
      let p = and_parts (eqb i k) (is_wired h k j) e in
      let at : i ≡ k = eqb-true i k p.0 in
      let fits : Fits h (Hear j k) = (s.within k j (fit, p.1), s.both k j (fit, p.1)) in
      subst (λ x. P (Told (told_from h x (n.heard x) j))) at (new (subst (λ x. Fits h (Hear j x)) (sym at) fits)))
      (λ _. old)

  pub heard_did :
      (P : Telling → Type 0) (d : Doing) → Fits h d → (n : Net) (j i : ℕ) → (Fits h (Hear j i) → (t : Telling) → n.line i j ≡ Told t → P t) →
      P (n.heard j i) → P ((did h d n).heard j i)
  unfolding did
  heard_did P (Work k) fit n j i new old = old
  heard_did P (Hear l k) fit n j i new old =
      cond_both (eqb j l && eqb i k) (after_hearing (n.line k l) (n.heard l k)) (n.heard j i) P
      (λ e.
      let p = and_parts (eqb j l) (eqb i k) e in
      let at : j ≡ l = eqb-true j l p.0 in
      let from : i ≡ k = eqb-true i k p.1 in
      let fits : Fits h (Hear j i) = subst₂ (λ x y. Fits h (Hear x y)) (sym at) (sym from) fit in
      subst₂ (λ x y. P (after_hearing (n.line y x) (n.heard x y))) at from (heard_after_hearing P (n.line i j) (n.heard j i) (new fits) old))
      (λ _. old)

  -- and what a doing makes for certain
  pub work_lamp : (n : Net) (i : ℕ) → (did h (Work i) n).lamp i ≡ worked (own_of h i) (row_in h n i)
  unfolding did
  work_lamp n i = cond-true (eqb i i) (worked (own_of h i) (row_in h n i)) (n.lamp i) (eq-eqb i i refl)

  pub work_line : (n : Net) (i j : ℕ) → is_wired h i j ≡ true → (did h (Work i) n).line i j ≡ Told (told_from h i (n.heard i) j)
  unfolding did
  work_line n i j wired =
      cond-true (eqb i i && is_wired h i j) (Told (told_from h i (n.heard i) j)) (n.line i j) (and_from (eqb i i) (is_wired h i j) (eq-eqb i i refl) wired)

  pub hear_heard : (n : Net) (j i : ℕ) (t : Telling) → n.line i j ≡ Told t → (did h (Hear j i) n).heard j i ≡ t
  unfolding did
  hear_heard n j i t e =
      cond-true (eqb j j && eqb i i) (after_hearing (n.line i j) (n.heard j i)) (n.heard j i)
      (and_from (eqb j j) (eqb i i) (eq-eqb j j refl) (eq-eqb i i refl)) ∙
      ap (λ r. after_hearing r (n.heard j i)) e
