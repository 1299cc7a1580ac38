-- Storing a telling writes its part of a memory, and no other.
use Rattle.std.proofs.Common.{◌≡◌, ℕ, ◌+◌, ◌-◌, ◌*◌, ◌<◌, ◌≤◌, List, ◌++◌, length, take, drop, sym, ap, ◌∙◌, ⊎_elim, arith, length-append, length-drop, length-take}
use Rattle.std.proofs.lemmas.List.{take_at, drop_at, take-append-le, drop-append-le, drop-take, take-take, drop-drop}
use Rattle.std.proofs.lemmas.Bool.{cases_lt}
use Rattle.telling.specs.declared.Telling.{Telling}
use Rattle.telling.specs.Layout.{bytes_of, telling_of, part_of, stored}
use Rattle.telling.specs.Laws.{PartsApart}
use Rattle.telling.proofs.Words.{length-bytes_of, telling_back}

module _ (m : List ℕ) (k : ℕ) (t : Telling) (h : 28 * k + 28 ≤ length m) where
  front : length (take (28 * k) m) ≡ 28 * k
  front = simp length-take (omega arith)

  behind : drop (28 * k) (stored m k t) ≡ bytes_of t ++ drop (28 * k + 28) m
  behind = drop_at (take (28 * k) m) _ (28 * k) front

  pub length-stored : length (stored m k t) ≡ length m
  length-stored = simp (length-append, length-take, length-drop) (omega (arith, length-bytes_of t))

  pub part_here : part_of (stored m k t) k ≡ bytes_of t
  part_here = ap (take 28) behind ∙ take_at (bytes_of t) _ 28 (length-bytes_of t)

  pub part_below : (j : ℕ) → j < k → part_of (stored m k t) j ≡ part_of m j
  part_below j l =
      let rest : List ℕ = bytes_of t ++ drop (28 * k + 28) m in
      let long : 28 * j + (28 * k - 28 * j) ≡ 28 * k = omega arith in
      let room : 28 ≤ length (drop (28 * j) (take (28 * k) m)) = simp (length-drop, length-take) (omega arith) in
      ap (take 28) (drop-append-le (28 * j) (take (28 * k) m) rest (omega (arith, front))) ∙
      take-append-le 28 (drop (28 * j) (take (28 * k) m)) rest room ∙
      ap (λ n. take 28 (drop (28 * j) (take n m))) (sym long) ∙
      ap (take 28) (drop-take (28 * j) (28 * k - 28 * j) m) ∙ take-take 28 (28 * k - 28 * j) (drop (28 * j) m) (omega arith)

  part_above : (j : ℕ) → k < j → part_of (stored m k t) j ≡ part_of m j
  part_above j l =
      let gap : ℕ = 28 * j - (28 * k + 28) in
      let far : 28 * k + 28 + gap ≡ 28 * j = omega arith in
      let past : drop (28 * k + 28) (stored m k t) ≡ drop (28 * k + 28) m =
      sym (drop-drop 28 (28 * k) (stored m k t)) ∙ ap (drop 28) behind ∙ drop_at (bytes_of t) _ 28 (length-bytes_of t) in
      ap (λ n. take 28 (drop n (stored m k t))) (sym far) ∙ ap (take 28) (sym (drop-drop gap (28 * k + 28) (stored m k t))) ∙
      ap (λ xs. take 28 (drop gap xs)) past ∙ ap (take 28) (drop-drop gap (28 * k + 28) m) ∙ ap (λ n. take 28 (drop n m)) far

pub parts_apart : PartsApart
parts_apart m k t fits h = (
  ap telling_of (part_here m k t h) ∙ telling_back t fits,
  λ j other. ⊎_elim (part_below m k t h j) (λ l. part_above m k t h j (omega arith)) (cases_lt j k),
)
