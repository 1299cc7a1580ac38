-- A telling's frame is read to that telling, and nothing else is.
use Rattle.std.proofs.Common.{◌≡◌, ℕ, suc, Bool, true, false, cond, List, [], ◌∷◌, ◌++◌, length, get_or, take, drop, set, sym, refl, ap, ◌∙◌, arith, length-append, length-drop, take-append-drop, length-take}
use Rattle.std.proofs.lemmas.List.{set_at, take_at, get_or_at, drop_more, drop_all, drop-drop}
use Rattle.std.proofs.lemmas.Bool.{and_from, and_parts, eq-eqb, eqb-true, cond-true}
use Rattle.telling.specs.declared.Telling.{Telling}
use Rattle.telling.specs.declared.frame.Reading.TheVariants.{Told, Noise}
use Rattle.telling.specs.Layout.{bytes_of, telling_of, check_of, frame_of}
use Rattle.telling.specs.Readings.{is_frame, reading_of}
use Rattle.telling.specs.Laws.{Bytes, Fitting}
use Rattle.telling.proofs.Words.{length-bytes_of, telling_back, part_back, bytes_take, bytes_drop}

-- writing the telling's bytes and then the check over 30 bytes makes the frame
pub sealed :
    (xs : List ℕ) (t : Telling) (x : ℕ) → xs ≡ bytes_of t → x ≡ check_of (76 ∷ take 28 (xs ++ 76 ∷ [])) →
    ◌≡◌ {A = List ℕ} (76 ∷ set (xs ++ 76 ∷ []) 28 x) (frame_of t)
sealed xs t x e s =
    let long : length (bytes_of t) ≡ 28 = length-bytes_of t in
    rw (e, set_at (bytes_of t) 76 [] x 28 long, s, e, take_at (bytes_of t) (76 ∷ []) 28 long)

-- between 76 and the check, 28 bytes are read to the telling in them
framed : (p : List ℕ) → length p ≡ 28 → reading_of ((76 ∷ p) ++ (check_of (76 ∷ p) ∷ [])) ≡ Told (telling_of p)
framed p l =
    let whole : length (p ++ check_of (76 ∷ p) ∷ []) ≡ 29 = simp length-append (omega arith) in
    let front : take 28 (p ++ check_of (76 ∷ p) ∷ []) ≡ p = take_at p _ 28 l in
    let last : get_or (p ++ check_of (76 ∷ p) ∷ []) 28 0 ≡ check_of (76 ∷ p) = get_or_at p _ [] 0 28 l in
    let frame : is_frame (76 ∷ (p ++ check_of (76 ∷ p) ∷ [])) ≡ true =
    and_from _ _ (and_from _ _ (eq-eqb _ 30 (ap suc whole)) (eq-eqb 76 76 refl)) (eq-eqb _ _ (last ∙ ap (λ xs. check_of (76 ∷ xs)) (sym front))) in
    cond-true _ _ _ frame ∙ ap (λ xs. Told (telling_of xs)) front

pub read_back : (t : Telling) → Fitting t → reading_of (frame_of t) ≡ Told t
read_back t h = framed (bytes_of t) (length-bytes_of t) ∙ ap Told (telling_back t h)

told : (b : Bool) {t u : Telling} → cond b (Told t) Noise ≡ Told u → (b ≡ true) × (t ≡ u)
told true e = (refl, cc)
told false e = let z : ◌≡◌ {A = ℕ} 0 1 = cc in absurd (omega arith)

-- 30 bytes as the first, the 28 behind it and the last
parted : (xs : List ℕ) → length xs ≡ 30 → xs ≡ (get_or xs 0 0 ∷ take 28 (drop 1 xs)) ++ (get_or xs 29 0 ∷ [])
parted xs l =
    let first = drop_more xs 0 0 (omega arith) in
    let last = drop_more xs 29 0 (omega arith) in
    let none = drop_all 30 xs (omega arith) in
    let middle = take-append-drop 28 (drop 1 xs) in
    let rest = drop-drop 28 1 xs in
    cc

pub only_frame : (xs : List ℕ) (t : Telling) → Bytes xs → reading_of xs ≡ Told t → xs ≡ frame_of t
only_frame xs t h e =
    let (frame, same) = told (is_frame xs) e in
    let (begins, ends) = and_parts _ _ frame in
    let (counts, opens) = and_parts _ _ begins in
    let long : length xs ≡ 30 = eqb-true _ _ counts in
    let part : List ℕ = take 28 (drop 1 xs) in
    let short : length part ≡ 28 = simp (length-take, length-drop) (omega arith) in
    let whole = parted xs long in
    let first : get_or xs 0 0 ≡ 76 = eqb-true _ _ opens in
    let last : get_or xs 29 0 ≡ check_of (take 29 xs) = eqb-true _ _ ends in
    let front : take 29 xs ≡ get_or xs 0 0 ∷ part = ap (take 29) whole ∙ take_at (get_or xs 0 0 ∷ part) (get_or xs 29 0 ∷ []) 29 (ap suc short) in
    let bytes : bytes_of (telling_of part) ≡ part = part_back part (bytes_take 28 (drop 1 xs) (bytes_drop 1 xs h)) short in
    cc
