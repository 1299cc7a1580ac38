-- Four bytes and their number, 28 bytes and their telling: each determines the other.
use Rattle.std.proofs.Common.{◌≡◌, ℕ, ◌+◌, ◌*◌, ◌/◌, ◌%◌, ◌^◌, ◌<◌, ◌≤◌, List, [], ◌∷◌, ◌++◌, length, get_or, take, drop, sym, refl, ap, ◌∙◌, ⊎_elim, arith, length-take}
use native.Mathlib.Nat.{div-div-eq-div-mul}
use Rattle.std.proofs.lemmas.List.{drop_all, drop_more, get_or-take, get_or-drop, get_or_past}
use Rattle.std.proofs.lemmas.Bool.{cases_lt}
use Rattle.telling.specs.declared.Telling.{Telling}
use Rattle.telling.specs.Laws.{Bytes, Fitting}
use Rattle.telling.specs.Layout.{word_of, word_at, bytes_of, telling_of}

pub length-bytes_of : (t : Telling) → length (bytes_of t) ≡ 28
unfolding bytes_of
length-bytes_of t = refl

-- a number from its digits in base 256, and the quotients between them
digits : (n p q r a b c d : ℕ) → n ≡ p * 256 + d → p ≡ q * 256 + c → q ≡ r * 256 + b → r ≡ a → a * 16777216 + b * 65536 + c * 256 + d ≡ n
digits n p q r a b c d e f g h = omega arith

four_back : (n : ℕ) → n < 2 ^ 32 → n / 16777216 % 256 * 16777216 + n / 65536 % 256 * 65536 + n / 256 % 256 * 256 + n % 256 ≡ n
four_back n h =
    let f : n / 256 / 256 ≡ n / 65536 = div-div-eq-div-mul n 256 256 in
    let g : n / 65536 / 256 ≡ n / 16777216 = div-div-eq-div-mul n 65536 256 in
    digits n (n / 256) (n / 65536) (n / 16777216) (n / 16777216 % 256) (n / 65536 % 256) (n / 256 % 256) (n % 256)
    (omega arith) (omega arith) (omega arith) (omega arith)

same_telling :
    {a b c d e f g a' b' c' d' e' f' g' : ℕ} → a ≡ a' → b ≡ b' → c ≡ c' → d ≡ d' → e ≡ e' → f ≡ f' → g ≡ g' →
    ◌≡◌ {A = Telling} (record { best = a; distance = b; parent = c; size = d; total = e; number = f; given = g })
    (record { best = a'; distance = b'; parent = c'; size = d'; total = e'; number = f'; given = g' })
same_telling p q r s t u v = cc

pub telling_back : (t : Telling) → Fitting t → telling_of (bytes_of t) ≡ t
unfolding bytes_of telling_of
telling_back t h =
    same_telling (four_back t.best h.best) (four_back t.distance h.distance) (four_back t.parent h.parent)
    (four_back t.size h.size) (four_back t.total h.total) (four_back t.number h.number) (four_back t.given h.given)

same_four : {a b c d a' b' c' d' : ℕ} → a ≡ a' → b ≡ b' → c ≡ c' → d ≡ d' → ◌≡◌ {A = List ℕ} (a ∷ b ∷ c ∷ d ∷ []) (a' ∷ b' ∷ c' ∷ d' ∷ [])
same_four p q r s = cc

four_bytes : (a b c d : ℕ) → a < 256 → b < 256 → c < 256 → d < 256 → word_of (a * 16777216 + b * 65536 + c * 256 + d) ≡ a ∷ b ∷ c ∷ d ∷ []
four_bytes a b c d ha hb hc hd = same_four (omega arith) (omega arith) (omega arith) (omega arith)

step : (xs : List ℕ) (k m : ℕ) → m ≡ k + 1 → k < length xs → drop k xs ≡ get_or xs k 0 ∷ drop m xs
step xs k m e h = rw e (drop_more xs k 0 h)

-- a word of bytes, and what is behind it
word_first : (xs : List ℕ) → Bytes xs → (k m : ℕ) → m ≡ k + 4 → m ≤ length xs → drop k xs ≡ word_of (word_at xs k) ++ drop m xs
word_first xs h k m e l =
    let w = four_bytes _ _ _ _ (h k) (h (k + 1)) (h (k + 2)) (h (k + 3)) in
    let a = step xs k (k + 1) refl (omega arith) in
    let b = step xs (k + 1) (k + 2) (omega arith) (omega arith) in
    let c = step xs (k + 2) (k + 3) (omega arith) (omega arith) in
    let d = step xs (k + 3) m (omega arith) (omega arith) in
    a ∙ ap (λ ys. get_or xs k 0 ∷ ys) (b ∙ ap (λ ys. get_or xs (k + 1) 0 ∷ ys) (c ∙ ap (λ ys. get_or xs (k + 2) 0 ∷ ys) d)) ∙ sym (ap (λ ys. ys ++ drop m xs) w)

pub part_back : (xs : List ℕ) → Bytes xs → length xs ≡ 28 → bytes_of (telling_of xs) ≡ xs
unfolding bytes_of telling_of
part_back xs h l =
    let a = word_first xs h 0 4 refl (omega arith) in
    let b = word_first xs h 4 8 refl (omega arith) in
    let c = word_first xs h 8 12 refl (omega arith) in
    let d = word_first xs h 12 16 refl (omega arith) in
    let e = word_first xs h 16 20 refl (omega arith) in
    let f = word_first xs h 20 24 refl (omega arith) in
    let g = word_first xs h 24 28 refl (omega arith) in
    let z = drop_all 28 xs (omega arith) in
    cc

bytes_past : (n : ℕ) (xs : List ℕ) (k : ℕ) → n ≤ k → get_or (take n xs) k 0 < 256
bytes_past n xs k l = rw (get_or_past (take n xs) k 0 (simp length-take (omega arith))) (omega arith)

pub bytes_take : (n : ℕ) (xs : List ℕ) → Bytes xs → Bytes (take n xs)
bytes_take n xs h k = ⊎_elim (λ l. rw (get_or-take n xs k 0 l) (h k)) (bytes_past n xs k) (cases_lt k n)

pub bytes_drop : (n : ℕ) (xs : List ℕ) → Bytes xs → Bytes (drop n xs)
bytes_drop n xs h k = rw (get_or-drop n xs k 0) (h (n + k))
