-- A line's words matched with texts: as many words, and letter by letter.
use Rattle.std.proofs.Common.{◌≡◌, ℕ, zero, suc, Bool, true, false, ◌&&◌, eqb, List, [], ◌∷◌, map, length, get_or, sym, refl, ap, ◌∙◌, arith}
use Rattle.std.specs.Borrow.{Bor}
use Rattle.std.specs.Str.{bytes_eq}

-- the letters of a text stand in a word from a place on
abbrev pub reads_from : List ℕ → ℕ → List ℕ → Bool
reads_from word i [] = true
reads_from word i (c ∷ cs) = eqb (get_or word i 0) c && reads_from word (suc i) cs

letters_behind : (b : ℕ) (word : List ℕ) (i : ℕ) (text : List ℕ) → reads_from (b ∷ word) (suc i) text ≡ reads_from word i text
letters_behind b word i [] = refl
letters_behind b word i (c ∷ cs) = ap (λ t. eqb (get_or word i 0) c && t) (letters_behind b word (suc i) cs)

swap : (p q r : Bool) → (p && (q && r)) ≡ (q && (p && r))
swap true q r = refl
swap false true r = refl
swap false false r = refl

-- a word is a text if it is as long and has the same letters
pub by_letters : (word text : List ℕ) → bytes_eq word text ≡ (eqb (length word) (length text) && reads_from word 0 text)
by_letters [] [] = refl
by_letters [] (c ∷ cs) = grind arith
by_letters (b ∷ bs) [] = grind arith
by_letters (b ∷ bs) (c ∷ cs) =
    ap (λ t. eqb b c && t) (by_letters bs cs ∙ ap (λ t. eqb (length bs) (length cs) && t) (sym (letters_behind b bs 0 cs)))
    ∙ swap (eqb b c) (eqb (length bs) (length cs)) (reads_from (b ∷ bs) 1 cs) ∙ grind arith

-- n words from a place on
abbrev pub words_from : List (Bor (List ℕ)) → ℕ → ℕ → List (List ℕ)
words_from ws i zero = []
words_from ws i (suc n) = (get_or ws i record { ref_ptr = (0, 0); now = [] }).now ∷ words_from ws (suc i) n

words_behind : (w : Bor (List ℕ)) (ws : List (Bor (List ℕ))) (i n : ℕ) → words_from (w ∷ ws) (suc i) n ≡ words_from ws i n
words_behind w ws i zero = refl
words_behind w ws i (suc n) = ap (λ others. (get_or ws i record { ref_ptr = (0, 0); now = [] }).now ∷ others) (words_behind w ws (suc i) n)

words_are : (ws : List (Bor (List ℕ))) (n : ℕ) → length ws ≡ n → map (λ w. w.now) ws ≡ words_from ws 0 n
words_are [] zero e = refl
words_are [] (suc n) e = absurd (omega arith)
words_are (w ∷ ws) zero e = absurd (omega arith)
words_are (w ∷ ws) (suc n) e = ap (λ others. w.now ∷ others) (words_are ws n (omega arith) ∙ sym (words_behind w ws 0 n))

pub two_words : (ws : List (Bor (List ℕ))) → length ws ≡ 2 → map (λ w. w.now) ws ≡ words_from ws 0 2
two_words ws = words_are ws 2

pub three_words : (ws : List (Bor (List ℕ))) → length ws ≡ 3 → map (λ w. w.now) ws ≡ words_from ws 0 3
three_words ws = words_are ws 3
