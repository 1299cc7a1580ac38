-- Lists that loops make, and the order of a round.
use Rattle.std.proofs.Common.{◌≡◌, ℕ, zero, suc, ◌+◌, ◌-◌, ◌%◌, ◌<◌, ◌≤◌, List, [], ◌∷◌, ◌++◌, map, length, get_or, take, sym, refl, ap, ◌∙◌, arith}
use Rattle.std.specs.List.{swap, flat_map}
use Rattle.std.proofs.lemmas.List.{append_assoc, take_more, map_more, flat_map_more}
use Rattle.model.specs.declared.Doing.{Doing}
use Rattle.model.specs.Halls.{Hall}
use Rattle.model.specs.Nets.{Net, did, ran}
use Rattle.network.specs.Sequence.{next_of, draw_at}
use Rattle.network.specs.Order.{shuffled_from}

-- one element more of a list that is mapped behind another
pub mapped_more :
    {X Y : Type 0} (f : X → Y) (before : List Y) (xs : List X) (i : ℕ) (d : X) {a b : List Y} → i < length xs → a ≡ before ++ map f (take i xs) →
    b ≡ a ++ f (get_or xs i d) ∷ [] → b ≡ before ++ map f (take (i + 1) xs)
mapped_more f before xs i d l e g =
    g ∙ ap (λ ys. ys ++ f (get_or xs i d) ∷ []) e ∙ append_assoc before (map f (take i xs)) (f (get_or xs i d) ∷ []) ∙ ap (λ ys. before ++ ys) (sym (map_more f xs i d l))

-- one element more of a list whose elements give a list each
pub pieces_more :
    {X Y : Type 0} (f : X → List Y) (before : List Y) (xs : List X) (i : ℕ) (d : X) {a b : List Y} → i < length xs → a ≡ before ++ flat_map f (take i xs) →
    b ≡ a ++ f (get_or xs i d) → b ≡ before ++ flat_map f (take (i + 1) xs)
pieces_more f before xs i d l e g =
    g ∙ ap (λ ys. ys ++ f (get_or xs i d)) e ∙ flat_map_more f before (take i xs) (get_or xs i d) ∙ ap (λ zs. before ++ flat_map f zs) (sym (take_more xs i d l))

-- one exchange of a shuffle
pub shuffled_step :
    (r s : ℕ) (ds : List Doing) → 0 < r → shuffled_from r s ds ≡ shuffled_from (r - 1) (next_of s) (swap ds (r - 1) (draw_at (next_of s) % (r - 1 + 1)))
unfolding shuffled_from
shuffled_step zero s ds l = absurd (omega arith)
shuffled_step (suc k) s ds l =
    let down : k ≡ suc k - 1 = omega arith in
    let up : suc k ≡ suc k - 1 + 1 = omega arith in
    ap (λ m. shuffled_from k (next_of s) (swap ds k (draw_at (next_of s) % m))) up ∙ ap (λ j. shuffled_from j (next_of s) (swap ds j (draw_at (next_of s) % (suc k - 1 + 1)))) down

pub shuffled_end : (r s : ℕ) (ds : List Doing) → r ≤ 0 → shuffled_from r s ds ≡ ds
unfolding shuffled_from
shuffled_end zero s ds l = refl
shuffled_end (suc r) s ds l = absurd (omega arith)

-- one doing more
ran_push : (h : Hall) (ds : List Doing) (d : Doing) (n : Net) → ran h (ds ++ d ∷ []) n ≡ did h d (ran h ds n)
unfolding ran
ran_push h [] d n = refl
ran_push h (e ∷ ds) d n = ran_push h ds d (did h e n)

pub ran_more :
    (h : Hall) (ds : List Doing) (n : Net) (k : ℕ) (d : Doing) → k < length ds → did h (get_or ds k d) (ran h (take k ds) n) ≡ ran h (take (k + 1) ds) n
ran_more h ds n k d l = sym (ap (λ ds. ran h ds n) (take_more ds k d l) ∙ ran_push h (take k ds) (get_or ds k d) n)

pub ran_none : (h : Hall) (n : Net) → ran h [] n ≡ n
unfolding ran
ran_none h n = refl
