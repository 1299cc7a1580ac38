-- A text, cut into its lines one by one.
use Rattle.std.proofs.Common.{◌≡◌, ℕ, ◌<◌, true, false, cond, eqb, List, [], ◌∷◌, ◌++◌, map, length, Some, None, Option, unwrap_or, Bor, sym, refl, ap, ◌∙◌, append_assoc, append-nil, arith}
use Rattle.std.specs.Option.{option_map}
use Rattle.std.proofs.lemmas.List.{nil_from_length}
use Rattle.text.specs.Words.{up_to, past}
use Rattle.script.specs.Lines.{on_first, lines_of}

-- the lines of what stands behind a line feed, if there is one
abbrev pub lines_behind : Option (List ℕ) → List (List ℕ)
lines_behind None = []
lines_behind (Some cs) = lines_of cs

pub first_line : (text : List ℕ) → 0 < length text → lines_of text ≡ up_to 10 text ∷ lines_behind (past 10 text)
unfolding lines_of up_to past
first_line [] l = absurd (omega arith)
first_line (c ∷ []) l = elim (eqb c 10) as (λ v. cond v ([] ∷ []) ((c ∷ []) ∷ []) ≡ cond v [] (c ∷ []) ∷ lines_behind (cond v (Some []) None)) [ true ↦ refl | false ↦ refl ]
first_line (c ∷ d ∷ cs) l =
    let on = first_line (d ∷ cs) (omega arith) in
    elim (eqb c 10)
    as (λ v. cond v ([] ∷ lines_of (d ∷ cs)) (on_first c (lines_of (d ∷ cs))) ≡ cond v [] (c ∷ up_to 10 (d ∷ cs)) ∷ lines_behind (cond v (Some (d ∷ cs)) (past 10 (d ∷ cs))))
    [ true ↦ refl | false ↦ ap (on_first c) on ]

-- what is left of a text behind its first line has the other lines, and is shorter
pub lines_left : (o : Option (List ℕ)) → lines_behind o ≡ lines_of (unwrap_or o [])
unfolding lines_of
lines_left None = refl
lines_left (Some cs) = refl

pub left_shorter : (end : ℕ) (text : List ℕ) → 0 < length text → length (unwrap_or (past end text) []) < length text
unfolding past
left_shorter end [] l = absurd (omega arith)
left_shorter end (c ∷ []) l = elim (eqb c end) as (λ v. length {A = ℕ} (unwrap_or (cond v (Some []) None) []) < length (c ∷ [])) [ true ↦ omega arith | false ↦ omega arith ]
left_shorter end (c ∷ d ∷ cs) l =
    let on = left_shorter end (d ∷ cs) (omega arith) in
    elim (eqb c end) as (λ v. length (unwrap_or (cond v (Some (d ∷ cs)) (past end (d ∷ cs))) []) < length (c ∷ d ∷ cs)) [ true ↦ omega arith | false ↦ omega (arith, on) ]

pub now_left : (o : Option (Bor (List ℕ))) (d : Bor (List ℕ)) → (unwrap_or o d).now ≡ unwrap_or (option_map (λ x. x.now) o) d.now
now_left None d = refl
now_left (Some x) d = refl

-- what was read of the lines so far, in front of what those that are left say
module _ {X : Type 0} (said : List ℕ → X) {whole : List X} (front : List X) (rest : List ℕ) (so_far : front ++ map said (lines_of rest) ≡ whole) where
  pub read_more : {more : List X} {x : X} {line : List ℕ} (after : List ℕ) → lines_of rest ≡ line ∷ lines_of after → x ≡ said line → more ≡ front ++ x ∷ [] → more ++ map said (lines_of after) ≡ whole
  read_more {line = line} after e says m =
      rw (m, says) (append_assoc front (said line ∷ []) (map said (lines_of after)) ∙ ap (λ lines. front ++ map said lines) (sym e) ∙ so_far)

  pub read_end : length rest ≡ 0 → front ≡ whole
  unfolding lines_of
  read_end e = sym (append-nil front) ∙ ap (λ cs. front ++ map said (lines_of cs)) (sym (nil_from_length rest e)) ∙ so_far
