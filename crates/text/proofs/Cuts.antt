-- A line, cut at its first space.
use Rattle.std.proofs.Common.{◌≡◌, ℕ, zero, suc, arith, ◌+◌, true, false, cond, eqb, List, [], ◌∷◌, ◌++◌, take, drop, Some, None, Option, sym, refl, ap, ◌∙◌, ⊎_elim}
use Rattle.std.proofs.lemmas.Bool.{cases_Bool, cond-true, cond-false, eqb-true, eqb-false, eq-eqb, ne_eqb}
use Rattle.text.specs.Words.{FirstAt, NoneIs, up_to, past, first_word, rest_of, on_first, words_of, words_behind, space_and, Spaceless}

pub words_cut : (cs : List ℕ) → words_of cs ≡ first_word cs ∷ words_behind (rest_of cs)
unfolding up_to past words_of
words_cut [] = refl
words_cut (c ∷ cs) =
    elim (eqb c 32) as (λ v. cond v ([] ∷ words_of cs) (on_first c (words_of cs)) ≡ cond v [] (c ∷ first_word cs) ∷ words_behind (cond v (Some cs) (rest_of cs)))
    [ true ↦ refl | false ↦ ap (on_first c) (words_cut cs) ]

pub whole_cut : (cs : List ℕ) → cs ≡ first_word cs ++ space_and (rest_of cs)
unfolding up_to past
whole_cut [] = refl
whole_cut (c ∷ cs) =
    ⊎_elim
    (λ e. rw e (ap (λ x. x ∷ cs) (eqb-true c 32 e)))
    (λ e. rw e (ap (λ xs. c ∷ xs) (whole_cut cs)))
    (cases_Bool (eqb c 32))

pub first_spaceless : (cs : List ℕ) → Spaceless (first_word cs)
unfolding up_to
first_spaceless [] = tt
first_spaceless (c ∷ cs) =
    ⊎_elim (λ e. rw e tt) (λ e. rw e (eqb-false c 32 e, first_spaceless cs)) (cases_Bool (eqb c 32))

-- what a cut says besides, of its word and its rest
pub told : (line word : List ℕ) (rest : Option (List ℕ)) → word ≡ first_word line → rest ≡ rest_of line → (words_of line ≡ word ∷ words_behind rest) × (line ≡ word ++ space_and rest) × Spaceless word
told line word rest e f = rw (e, f) (words_cut line, whole_cut line, first_spaceless line)

drop_further : (c : ℕ) (cs : List ℕ) (i : ℕ) → drop (suc i + 1) (c ∷ cs) ≡ drop (i + 1) cs
drop_further c cs i = let e : suc i + 1 ≡ suc (i + 1) = omega arith in rw e refl

-- the first byte of a kind stands at i, so there the cut is
pub cut_here : (end : ℕ) (xs : List ℕ) (i : ℕ) → FirstAt end xs i → (take i xs ≡ up_to end xs) × (Some (drop (i + 1) xs) ≡ past end xs)
unfolding up_to past
cut_here end [] i f = absurd (omega (arith, f.there))
cut_here end (c ∷ cs) zero f = (sym (cond-true _ _ _ (eq-eqb c end f.found)), sym (cond-true _ _ _ (eq-eqb c end f.found)))
cut_here end (c ∷ cs) (suc i) f =
    let no = ne_eqb c end (f.first 0 (omega arith)) in
    let on = cut_here end cs i (record { there = omega (arith, f.there); found = f.found; first = λ k h. f.first (suc k) (omega arith) }) in
    (ap (λ xs. c ∷ xs) on.0 ∙ sym (cond-false _ _ _ no), ap Some (drop_further c cs i) ∙ on.1 ∙ sym (cond-false _ _ _ no))

-- and where there is none, at the end
pub cut_end : (end : ℕ) (xs : List ℕ) → NoneIs end xs → (xs ≡ up_to end xs) × (None ≡ past end xs)
unfolding up_to past
cut_end end [] none = (refl, refl)
cut_end end (c ∷ cs) none =
    let no = ne_eqb c end (none 0 (omega arith)) in
    let on = cut_end end cs (λ k h. none (suc k) (omega arith)) in
    (ap (λ xs. c ∷ xs) on.0 ∙ sym (cond-false _ _ _ no), on.1 ∙ sym (cond-false _ _ _ no))
