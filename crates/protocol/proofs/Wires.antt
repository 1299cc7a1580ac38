-- What a row holds at the place that a wire leads to.
use Rattle.std.proofs.Common.{◌≡◌, ℕ, zero, suc, ◌<◌, ◌≤◌, true, false, List, [], ◌∷◌, length, get_or, set, sym, refl, ap, ◌∙◌, arith, length-take}
use Rattle.std.proofs.lemmas.List.{get_or-take}
use Rattle.std.proofs.lemmas.Bool.{eq-eqb, ne_eqb, cond-true, cond-false, or_left, or_right, or_from}
use Rattle.telling.specs.declared.Telling.{Telling}
use Rattle.protocol.specs.declared.facts.Site.{Site}
use Rattle.protocol.specs.Rows.{row_of, places_of, has_wire, Wire, NoWireTo}
use Rattle.protocol.specs.Rules.{nothing, telling_at}
use Rattle.protocol.specs.Hearing.{replaced}
use Rattle.protocol.proofs.Rows.{length-places_of}

-- the place stands first at k in a list
record First (ps : List ℕ) (p k : ℕ) : Type 0 where
  there : k < length ps
  leads : get_or ps k 0 ≡ p
  first : (j : ℕ) → j < k → get_or ps j 0 ≡ p → ⊥

next : {q : ℕ} {ps : List ℕ} {p k : ℕ} → First (q ∷ ps) p (suc k) → First ps p k
next f = record { there = omega (arith, f.there); leads = f.leads; first = λ j h. f.first (suc j) (omega arith) }

-- it stands nowhere in a list
abbrev Nowhere : List ℕ → ℕ → Type 0
Nowhere ps p = (k : ℕ) → k < length ps → get_or ps k 0 ≡ p → ⊥

found_wire : (ps : List ℕ) (p k : ℕ) → First ps p k → has_wire ps p ≡ true
unfolding has_wire
found_wire [] p k f = absurd (omega (arith, f.there))
found_wire (q ∷ ps) p zero f = or_left _ _ (eq-eqb q p f.leads)
found_wire (q ∷ ps) p (suc k) f = or_right _ _ (found_wire ps p k (next f))

no_wire : (ps : List ℕ) (p : ℕ) → Nowhere ps p → has_wire ps p ≡ false
unfolding has_wire
no_wire [] p f = refl
no_wire (q ∷ ps) p f = or_from _ _ (ne_eqb q p (f 0 (omega arith))) (no_wire ps p (λ k h. f (suc k) (omega arith)))

found_said : (ps : List ℕ) (ts : List Telling) (p k : ℕ) → length ps ≤ length ts → First ps p k → telling_at p (row_of ps ts) ≡ get_or ts k nothing
unfolding row_of telling_at
found_said [] ts p k l f = absurd (omega (arith, f.there))
found_said (q ∷ ps) [] p k l f = absurd (omega arith)
found_said (q ∷ ps) (t ∷ ts) p zero l f = cond-true _ _ _ (eq-eqb q p f.leads)
found_said (q ∷ ps) (t ∷ ts) p (suc k) l f =
    cond-false _ _ _ (ne_eqb q p (f.first 0 (omega arith))) ∙ found_said ps ts p k (omega arith) (next f)

no_said : (ps : List ℕ) (ts : List Telling) (p : ℕ) → Nowhere ps p → telling_at p (row_of ps ts) ≡ nothing
unfolding row_of telling_at
no_said [] ts p f = refl
no_said (q ∷ ps) [] p f = refl
no_said (q ∷ ps) (t ∷ ts) p f = cond-false _ _ _ (ne_eqb q p (f 0 (omega arith))) ∙ no_said ps ts p (λ k h. f (suc k) (omega arith))

found_replaced :
    (ps : List ℕ) (ts : List Telling) (p k : ℕ) (u : Telling) → length ps ≤ length ts → First ps p k → replaced p u (row_of ps ts) ≡ row_of ps (set ts k u)
unfolding row_of replaced
found_replaced [] ts p k u l f = absurd (omega (arith, f.there))
found_replaced (q ∷ ps) [] p k u l f = absurd (omega arith)
found_replaced (q ∷ ps) (t ∷ ts) p zero u l f = cond-true _ _ _ (eq-eqb q p f.leads)
found_replaced (q ∷ ps) (t ∷ ts) p (suc k) u l f =
    cond-false _ _ _ (ne_eqb q p (f.first 0 (omega arith))) ∙
    ap (λ row. record { place = q; telling = t } ∷ row) (found_replaced ps ts p k u (omega arith) (next f))

no_replaced : (ps : List ℕ) (ts : List Telling) (p : ℕ) (u : Telling) → Nowhere ps p → replaced p u (row_of ps ts) ≡ row_of ps ts
unfolding row_of replaced
no_replaced [] ts p u f = refl
no_replaced (q ∷ ps) [] p u f = refl
no_replaced (q ∷ ps) (t ∷ ts) p u f =
    cond-false _ _ _ (ne_eqb q p (f 0 (omega arith))) ∙ ap (λ row. record { place = q; telling = t } ∷ row) (no_replaced ps ts p u (λ k h. f (suc k) (omega arith)))

-- the same of a site's wires: where none leads to the place
module _ (s : Site) (p : ℕ) (n : NoWireTo s p) where
  nowhere : Nowhere (places_of s) p
  nowhere k h e =
      let inside : k < s.wires = omega (arith, length-take s.wires s.places) in
      n k inside (sym (get_or-take s.wires s.places k 0 inside) ∙ e)

  pub wire_missing : has_wire (places_of s) p ≡ false
  wire_missing = no_wire (places_of s) p nowhere

  pub said_missing : (ts : List Telling) → telling_at p (row_of (places_of s) ts) ≡ nothing
  said_missing ts = no_said (places_of s) ts p nowhere

  pub replaced_missing : (ts : List Telling) (u : Telling) → replaced p u (row_of (places_of s) ts) ≡ row_of (places_of s) ts
  replaced_missing ts u = no_replaced (places_of s) ts p u nowhere

-- and where one does
module _ (s : Site) (p k : ℕ) (w : Wire s p k) where
  at : First (places_of s) p k
  at =
      record {
        there = omega (arith, length-places_of s, w.there);
        leads = get_or-take s.wires s.places k 0 w.there ∙ w.leads;
        first = λ j h e. w.first j h (sym (get_or-take s.wires s.places j 0 (omega (arith, w.there))) ∙ e);
      }

  pub wire_there : has_wire (places_of s) p ≡ true
  wire_there = found_wire (places_of s) p k at

  pub said_there : (ts : List Telling) → length ts ≡ 16 → telling_at p (row_of (places_of s) ts) ≡ get_or ts k nothing
  said_there ts long = found_said (places_of s) ts p k (omega (arith, length-places_of s, s.few)) at

  pub replaced_there : (ts : List Telling) → length ts ≡ 16 → (u : Telling) → replaced p u (row_of (places_of s) ts) ≡ row_of (places_of s) (set ts k u)
  replaced_there ts long u = found_replaced (places_of s) ts p k u (omega (arith, length-places_of s, s.few)) at
