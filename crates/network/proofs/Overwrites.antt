-- A part of a list written over: what stands there, and in all other parts.
use Rattle.std.proofs.Common.{◌≡◌, ℕ, ◌+◌, ◌-◌, ◌*◌, ◌<◌, ◌≤◌, ◌⊎◌, List, ◌++◌, length, get_or, take, drop, sym, refl, ap, ◌∙◌, subst, inl, inr, ⊎_elim, arith, length-append, length-drop, length-take}
use borrow.Rule.Slice.PartMut.{put_mid}
use Rattle.std.proofs.lemmas.List.{same_lists, get_or_append_left, get_or-append_right, get_or-take, get_or-drop, length-take-le}
use Rattle.std.proofs.lemmas.Bool.{cases_lt}
use Rattle.std.proofs.Math.Nat.{mul-le-mul_left}
use Rattle.telling.specs.declared.Telling.{Telling}
use Rattle.telling.specs.Words.{words_of_telling, telling_of_words}
use Rattle.protocol.specs.declared.state.Numbers.{Numbers}
use Rattle.protocol.specs.Words.{words_of_numbers, numbers_of_words}
use Rattle.network.specs.Words.{part_in, Put, PartPut, TellingPut, NumbersPut}

-- xs with ys over its n elements from a on
module _ (xs ys : List ℕ) (a n : ℕ) (room : a + n ≤ length xs) (whole : length ys ≡ n) where
  front : length (take a xs) ≡ a
  front = length-take-le a xs (omega arith)

  pub mid_inside : (f d : ℕ) → f < n → get_or (put_mid a n xs ys) (a + f) d ≡ get_or ys f d
  mid_inside f d l =
      get_or-append_right (take a xs) (ys ++ drop n (drop a xs)) a (a + f) d front (omega arith)
      ∙ ap (λ i. get_or (ys ++ drop n (drop a xs)) i d) (omega arith)
      ∙ get_or_append_left ys (drop n (drop a xs)) d f (omega arith)

  mid_below : (k d : ℕ) → k < a → get_or (put_mid a n xs ys) k d ≡ get_or xs k d
  mid_below k d l = get_or_append_left (take a xs) (ys ++ drop n (drop a xs)) d k (omega (arith, front)) ∙ get_or-take a xs k d l

  mid_above : (k d : ℕ) → a + n ≤ k → get_or (put_mid a n xs ys) k d ≡ get_or xs k d
  mid_above k d l =
      get_or-append_right (take a xs) (ys ++ drop n (drop a xs)) a k d front (omega arith)
      ∙ get_or-append_right ys (drop n (drop a xs)) n (k - a) d whole (omega arith)
      ∙ get_or-drop n (drop a xs) (k - a - n) d
      ∙ get_or-drop a xs (n + (k - a - n)) d
      ∙ ap (λ i. get_or xs i d) (omega arith)

  pub mid_outside : (k d : ℕ) → (k < a) ⊎ (a + n ≤ k) → get_or (put_mid a n xs ys) k d ≡ get_or xs k d
  mid_outside k d o = ⊎_elim (mid_below k d) (mid_above k d) o

  pub length-mid : length (put_mid a n xs ys) ≡ length xs
  length-mid = simp (length-append, length-take, length-drop) (omega arith)

get_or-part : (n : ℕ) (xs : List ℕ) (s k d : ℕ) → k < n → get_or (part_in n xs s) k d ≡ get_or xs (n * s + k) d
unfolding part_in
get_or-part n xs s k d l = get_or-take n (drop (n * s) xs) k d l ∙ get_or-drop (n * s) xs k d

length-part : (n : ℕ) (xs ys : List ℕ) (s : ℕ) → length xs ≡ length ys → length (part_in n xs s) ≡ length (part_in n ys s)
unfolding part_in
length-part n xs ys s e = simp (length-take, length-drop) (rw e refl)

length-part-le : (n : ℕ) (xs : List ℕ) (s : ℕ) → length (part_in n xs s) ≤ n
unfolding part_in
length-part-le n xs s = simp (length-take) (omega arith)

length-part-whole : (n : ℕ) (xs : List ℕ) (s : ℕ) → n * s + n ≤ length xs → length (part_in n xs s) ≡ n
unfolding part_in
length-part-whole n xs s l = simp (length-take, length-drop) (omega arith)

-- another part lies before this one or behind it
apart : (n s r k : ℕ) → (r ≡ s → ⊥) → k < n → (n * r + k < n * s) ⊎ (n * s + n ≤ n * r + k)
apart n s r k ne l =
    ⊎_elim (λ b. inl (omega (arith, mul-le-mul_left {m = r + 1} {n = s} n (omega arith)))) (λ b. inr (omega (arith, mul-le-mul_left {m = s + 1} {n = r} n (omega arith)))) (cases_lt r s)

module _ (n : ℕ) (xs ys : List ℕ) (s : ℕ) (room : n * s + n ≤ length xs) (whole : length ys ≡ n) where
  abbrev zs : List ℕ
  zs = put_mid (n * s) n xs ys

  long : length zs ≡ length xs
  long = length-mid xs ys (n * s) n room whole

  part_put_mid : PartPut n xs zs s ys
  part_put_mid =
      record {
        here =
            let full = length-part-whole n zs s (omega (arith, long)) in
            same_lists _ _ (full ∙ sym whole)
            (λ k d l. get_or-part n zs s k d (omega arith) ∙ mid_inside xs ys (n * s) n room whole k d (omega arith));
        others = λ r ne.
            same_lists _ _ (length-part n zs xs r long)
            (λ k d l.
            let inside : k < n = omega (arith, length-part-le n zs r) in
            get_or-part n zs r k d inside ∙ mid_outside xs ys (n * s) n room whole (n * r + k) d (apart n s r k ne inside) ∙ sym (get_or-part n xs r k d inside));
        long = long;
      }

  pub part_put : (m : ℕ) (written : List ℕ) → m ≡ n → written ≡ ys → PartPut n xs (put_mid (n * s) m xs written) s ys
  part_put m written e f = subst (λ ws. PartPut n xs ws s ys) (sym (ap (λ m. put_mid (n * s) m xs written) e ∙ ap (put_mid (n * s) n xs) f)) part_put_mid

-- what is read of a part is put where its words are
pub put_read :
    {X : Type 0} (n : ℕ) (read : List ℕ → X) (xs after : List ℕ) (s : ℕ) (ys : List ℕ) (x : X) → read ys ≡ x → PartPut n xs after s ys →
    Put (λ words r. read (part_in n words r)) xs after s x
put_read n read xs after s ys x is put = record { here = ap read put.here ∙ is; others = λ r ne. ap read (put.others r ne); long = put.long }

pub telling_put : (xs after : List ℕ) (s : ℕ) (t : Telling) (ys : List ℕ) → ys ≡ words_of_telling t → PartPut 7 xs after s ys → TellingPut xs after s t
telling_put xs after s t ys e put = put_read 7 telling_of_words xs after s ys t (ap telling_of_words e) put

pub numbers_put : (xs after : List ℕ) (s : ℕ) (w : Numbers) (ys : List ℕ) → ys ≡ words_of_numbers w → PartPut 6 xs after s ys → NumbersPut xs after s w
numbers_put xs after s w ys e put = put_read 6 numbers_of_words xs after s ys w (ap numbers_of_words e) put
