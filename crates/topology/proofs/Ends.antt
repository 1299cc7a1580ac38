-- The ends of wires that lines name.
use Rattle.std.proofs.Common.{◌≡◌, ℕ, ◌+◌, ◌<◌, Bool, true, false, cond, ◌&&◌, ◌||◌, eqb, List, [], ◌∷◌, ◌++◌, sym, refl, ap, ◌∙◌, ⊎_elim, arith}
use mathlib.Core.Bool.{and_comm, or_comm, or_assoc, or-false}
use Rattle.std.specs.List.{All}
use Rattle.std.proofs.lemmas.List.Elements.{All-nil, All-cons, All-head, All-tail}
use Rattle.std.proofs.lemmas.Bool.{and_parts, and_from, or_cases, or_left, or_right, not-true, both_ways, eqb-true, eq-eqb}
use Rattle.protocol.specs.declared.facts.Own.{Own}
use Rattle.protocol.specs.Rows.{has_wire}
use Rattle.protocol.specs.Wiring.{rises_from}
use Rattle.topology.specs.declared.lines.Line.{Line}
use Rattle.topology.specs.declared.lines.Line.TheVariants.{Most, Lamp, Wire, Unknown}
use Rattle.topology.specs.Files.{other_end, ends_of, ends_at, EndsBelow}
use Rattle.topology.specs.Checks.{RightEnds}

has_append : (xs ys : List ℕ) (p : ℕ) → has_wire (xs ++ ys) p ≡ (has_wire xs p || has_wire ys p)
unfolding has_wire
has_append [] ys p = refl
has_append (x ∷ xs) ys p = ap (λ b. eqb x p || b) (has_append xs ys p) ∙ sym (or_assoc (eqb x p) (has_wire xs p) (has_wire ys p))

other_has : (i a b j : ℕ) → has_wire (other_end i a b) j ≡ (eqb a i && eqb b j)
unfolding has_wire
other_has i a b j = elim (eqb a i) as (λ v. has_wire (cond v (b ∷ []) []) j ≡ (v && eqb b j)) [ true ↦ or-false (eqb b j) | false ↦ refl ]

turned : (p q r s : Bool) → ((p && q) || (r && s)) ≡ ((s && r) || (q && p))
turned p q r s = or_comm (p && q) (r && s) ∙ ap (λ v. v || (p && q)) (and_comm r s) ∙ ap (λ v. (s && r) || v) (and_comm p q)

wire_has : (i a b j : ℕ) → has_wire (ends_of i (Wire a b)) j ≡ ((eqb a i && eqb b j) || (eqb b i && eqb a j))
wire_has i a b j =
    has_append (other_end i a b) (other_end i b a) j
    ∙ ap (λ v. v || has_wire (other_end i b a) j) (other_has i a b j)
    ∙ ap (λ v. (eqb a i && eqb b j) || v) (other_has i b a j)

-- a line names a wire from both of its ends
line_turned : (i j : ℕ) (line : Line) → has_wire (ends_of i line) j ≡ has_wire (ends_of j line) i
unfolding has_wire
line_turned i j (Most m) = refl
line_turned i j (Lamp n) = refl
line_turned i j (Wire a b) = wire_has i a b j ∙ turned (eqb a i) (eqb b j) (eqb b i) (eqb a j) ∙ sym (wire_has j a b i)
line_turned i j Unknown = refl

pub ends_turned : (i j : ℕ) (lines : List Line) → has_wire (ends_at i lines) j ≡ has_wire (ends_at j lines) i
unfolding has_wire
ends_turned i j [] = refl
ends_turned i j (l ∷ ls) =
    has_append (ends_of i l) (ends_at i ls) j
    ∙ ap (λ v. v || has_wire (ends_at i ls) j) (line_turned i j l)
    ∙ ap (λ v. has_wire (ends_of j l) i || v) (ends_turned i j ls)
    ∙ sym (has_append (ends_of j l) (ends_at j ls) i)

module _ (count : ℕ) where
  line_below : (i j : ℕ) (line : Line) → EndsBelow count line → has_wire (ends_of i line) j ≡ true → j < count
  unfolding has_wire
  line_below i j (Most m) p e = absurd (both_ways _ refl e)
  line_below i j (Lamp n) p e = absurd (both_ways _ refl e)
  line_below i j (Wire a b) p e =
      ⊎_elim
      (λ t. omega (arith, eqb-true b j (and_parts _ _ t).1))
      (λ t. omega (arith, eqb-true a j (and_parts _ _ t).1))
      (or_cases (eqb a i && eqb b j) (eqb b i && eqb a j) (sym (wire_has i a b j) ∙ e))
  line_below i j Unknown p e = absurd (both_ways _ refl e)

  -- no wire leads to a place beyond
  pub ends_below : (i j : ℕ) (lines : List Line) → All (EndsBelow count) lines → has_wire (ends_at i lines) j ≡ true → j < count
  unfolding has_wire
  ends_below i j [] p e = absurd (both_ways _ refl e)
  ends_below i j (l ∷ ls) p e =
      ⊎_elim (line_below i j l (All-head (EndsBelow count) l ls p)) (ends_below i j ls (All-tail (EndsBelow count) l ls p)) (or_cases _ _ (sym (has_append (ends_of i l) (ends_at i ls) j) ∙ e))

  line_right : (line : Line) → EndsBelow count line → ((i : ℕ) → i < count → has_wire (ends_of i line) i ≡ true → ⊥) → RightEnds count line
  line_right (Most m) p apart = tt
  line_right (Lamp n) p apart = tt
  line_right (Wire a b) p apart = (
    p.0,
    p.1,
    λ same. apart a p.0 (wire_has a a b a ∙ or_left _ _ (and_from _ _ (eq-eqb a a refl) (eq-eqb b a (sym same)))),
  )
  line_right Unknown p apart = tt

  -- where no lamp is wired to itself, each wire has its ends at two places
  pub ends_right :
      (lines : List Line) → All (EndsBelow count) lines → ((i : ℕ) → i < count → has_wire (ends_at i lines) i ≡ true → ⊥) → All (RightEnds count) lines
  ends_right [] p apart = All-nil (RightEnds count)
  ends_right (l ∷ ls) p apart =
      All-cons (RightEnds count) l ls
      (line_right l (All-head (EndsBelow count) l ls p) (λ i h e. apart i h (has_append (ends_of i l) (ends_at i ls) i ∙ or_left _ _ e)))
      (ends_right ls (All-tail (EndsBelow count) l ls p) (λ i h e. apart i h (has_append (ends_of i l) (ends_at i ls) i ∙ or_right _ _ e)))

  pub right_below : (line : Line) → RightEnds count line → EndsBelow count line
  right_below (Most m) p = tt
  right_below (Lamp n) p = tt
  right_below (Wire a b) p = (p.0, p.1)
  right_below Unknown p = tt

-- rising places that a lamp may be wired to are not its own
pub rises_apart : (own : Own) (low : ℕ) (ps : List ℕ) → rises_from own low ps ≡ true → has_wire ps own.place ≡ true → ⊥
unfolding rises_from has_wire
rises_apart own low [] r e = both_ways _ refl e
rises_apart own low (p ∷ ps) r e =
    let both = and_parts _ _ r in
    ⊎_elim (both_ways _ (not-true _ (and_parts _ _ both.0).1)) (rises_apart own (p + 1) ps both.1) (or_cases _ _ e)
