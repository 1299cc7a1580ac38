-- Numbers, read a word at a time.
use Rattle.std.proofs.Common.{◌≡◌, ℕ, ◌+◌, ◌<◌, ◌≤◌, List, [], ◌∷◌, ◌++◌, map, length, get_or, drop, Some, None, sym, refl, ap, ◌∙◌, append-nil}
use Rattle.std.proofs.lemmas.List.{at_drop_more, at_drop_all}
use Rattle.text.specs.Decimal.{number_of}
use Rattle.text.specs.Hex.{with_first}
use Rattle.text.proofs.Bytes.{behind, behind_more}
use Rattle.console.specs.Arguments.{numbers_in}

module _ {X : Type 0} (bytes : X → List ℕ) (words : List X) (i : ℕ) where
  -- the next word of those that are left
  next : (x : X) → i < length words → x ≡ get_or words i x → numbers_in (map bytes (drop i words)) ≡ with_first (number_of (bytes x)) (numbers_in (map bytes (drop (i + 1) words)))
  unfolding numbers_in
  next x l e = at_drop_more (λ ws. numbers_in (map bytes ws)) words i x l ∙ ap (λ y. with_first (number_of (bytes y)) (numbers_in (map bytes (drop (i + 1) words)))) (sym e)

  pub read_more :
      (front more : List ℕ) (n : ℕ) (x : X) → i < length words → x ≡ get_or words i x → number_of (bytes x) ≡ Some n → more ≡ front ++ n ∷ [] →
      behind more (numbers_in (map bytes (drop (i + 1) words))) ≡ behind front (numbers_in (map bytes (drop i words)))
  read_more front more n x l e f g = rw (next x l e, f, g) (sym (behind_more front n (numbers_in (map bytes (drop (i + 1) words)))))

  pub read_none : (front : List ℕ) (x : X) → i < length words → x ≡ get_or words i x → number_of (bytes x) ≡ None → behind front (numbers_in (map bytes (drop i words))) ≡ None
  read_none front x l e f = rw (next x l e, f) refl

  pub read_end : (front : List ℕ) → length words ≤ i → behind front (numbers_in (map bytes (drop i words))) ≡ Some front
  unfolding numbers_in
  read_end front l = at_drop_all (λ ws. behind front (numbers_in (map bytes ws))) words i l ∙ ap Some (append-nil front)
