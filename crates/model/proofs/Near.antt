-- Lamps near to the root, and the ways that lead to them: every lamp of a sound hall is nearer than there are lamps.
use Rattle.std.proofs.Common.{◌≡◌, ℕ, zero, suc, ◌+◌, ◌-◌, ◌<◌, ◌≤◌, Bool, true, false, cond, ltb, ◌⊎◌, sym, refl, ap, ◌∙◌, subst, inl, inr, ⊎_elim, arith}
use Rattle.std.proofs.lemmas.Bool.{or_cases, or_left, or_right, eqb-true, eq-eqb, cases_Bool, cases_lt, both_ways, cond_both, ltb-true, ltb-false}
use Rattle.model.specs.Halls.{Hall, Way, stay, step, Sound, is_wired}
use Rattle.model.specs.Assignment.{lowest_of, root_of, is_near}
use Rattle.model.specs.Trees.{sum_below}
use Rattle.model.specs.Promise.{Lowest}
use Rattle.model.proofs.Places.{any_found, any_from}

-- the root
lowest_within : (h : Hall) (n : ℕ) → lowest_of h (suc n) ≤ n
unfolding lowest_of
lowest_within h zero = cond_both (ltb (h.name zero) (h.name 0)) zero 0 (λ k. k ≤ zero) (λ _. omega arith) (λ _. omega arith)
lowest_within h (suc n) =
    cond_both (ltb (h.name (suc n)) (h.name (lowest_of h (suc n)))) (suc n) (lowest_of h (suc n)) (λ k. k ≤ suc n)
    (λ _. omega arith) (λ _. omega (arith, lowest_within h n))

lowest_least : (h : Hall) (n a : ℕ) → a < n → h.name (lowest_of h n) ≤ h.name a
unfolding lowest_of
lowest_least h zero a l = absurd (omega arith)
lowest_least h (suc n) a l =
    let before : a < n → h.name (lowest_of h n) ≤ h.name a = lowest_least h n a in
    let last : n ≤ a → h.name n ≡ h.name a = λ m. ap h.name (omega arith) in
    cond_both (ltb (h.name n) (h.name (lowest_of h n))) n (lowest_of h n) (λ k. h.name k ≤ h.name a)
    (λ lower. ⊎_elim (λ m. omega (arith, before m, ltb-true _ _ lower)) (λ m. omega (arith, last m)) (cases_lt a n))
    (λ higher. ⊎_elim (λ m. before m) (λ m. omega (arith, last m, ltb-false _ _ higher)) (cases_lt a n))

-- how many below n pass a test
abbrev one : Bool → ℕ
one b = cond b 1 0

abbrev many : (ℕ → Bool) → ℕ → ℕ
many test n = sum_below (λ j. one (test j)) n

one_or_none : (b : Bool) → one b ≤ 1
one_or_none true = omega arith
one_or_none false = omega arith

few_pass : (test : ℕ → Bool) (n : ℕ) → many test n ≤ n
unfolding sum_below
few_pass test zero = omega arith
few_pass test (suc n) = omega (arith, few_pass test n, one_or_none (test n))

some_pass : (test : ℕ → Bool) (n a : ℕ) → a < n → test a ≡ true → 1 ≤ many test n
unfolding sum_below
some_pass test zero a l t = absurd (omega arith)
some_pass test (suc n) a l t =
    ⊎_elim
    (λ before. omega (arith, some_pass test n a before t))
    (λ last. let e : a ≡ n = omega arith in omega (arith, ap one (sym (ap test e) ∙ t)))
    (cases_lt a n)

more_or_same : (p q : Bool) → (p ≡ true → q ≡ true) → one p ≤ one q
more_or_same true q f = omega (arith, ap one (f refl))
more_or_same false q f = omega arith

more_pass : (p q : ℕ → Bool) (n : ℕ) → ((j : ℕ) → j < n → p j ≡ true → q j ≡ true) → many p n ≤ many q n
unfolding sum_below
more_pass p q zero f = omega arith
more_pass p q (suc n) f = omega (arith, more_pass p q n (λ j l. f j (omega arith)), more_or_same (p n) (q n) (f n (omega arith)))

-- where no more pass the wider test, just the same do
same_pass : (p q : ℕ → Bool) (n : ℕ) → ((j : ℕ) → j < n → p j ≡ true → q j ≡ true) → many q n ≤ many p n → (j : ℕ) → j < n → q j ≡ true → p j ≡ true
unfolding sum_below
same_pass p q zero f few j l t = absurd (omega arith)
same_pass p q (suc n) f few j l t =
    let smaller = more_pass p q n (λ j l. f j (omega arith)) in
    let last = more_or_same (p n) (q n) (f n (omega arith)) in
    ⊎_elim
    (λ before. same_pass p q n (λ j l. f j (omega arith)) (omega arith) j before t)
    (λ here.
    let e : j ≡ n = omega arith in
    let here' : one (q n) ≡ 1 = ap one (sym (ap q e) ∙ t) in
    ⊎_elim
    (λ yes'. ap p e ∙ yes')
    (λ no'. absurd (let none : one (p n) ≡ 0 = ap one no' in omega arith))
    (cases_Bool (p n)))
    (cases_lt j n)

pub pred_of : (n : ℕ) → 1 ≤ n → (d : ℕ) × (n ≡ suc d)
pred_of zero l = absurd (omega arith)
pred_of (suc d) l = (d, refl)

difference : (k d : ℕ) → k ≤ d → (x : ℕ) × (x + k ≡ d)
difference k d l = (d - k, omega arith)

module _ (h : Hall) (s : Sound h) where
  -- the root is a lamp, and no lamp has a lower name
  pub root_lowest : Lowest h (root_of h)
  root_lowest =
      let p = pred_of h.count s.some in
      (omega (arith, lowest_within h p.0, ap (lowest_of h) p.1), lowest_least h h.count)

  -- near is near at more wires too
  near_more : (d i : ℕ) → is_near h d i ≡ true → is_near h (suc d) i ≡ true
  unfolding is_near
  near_more d i e = or_left _ _ e

  near_add : (d k i : ℕ) → is_near h d i ≡ true → is_near h (k + d) i ≡ true
  near_add d zero i e = subst (λ m. is_near h m i ≡ true) (omega arith) e
  near_add d (suc k) i e = subst (λ m. is_near h m i ≡ true) (omega arith) (near_more (k + d) i (near_add d k i e))

  -- one wire further is near at one wire more
  pub near_across : (d i j : ℕ) → is_wired h i j ≡ true → is_near h d j ≡ true → is_near h (suc d) i ≡ true
  unfolding is_near
  near_across d i j w e = or_right _ _ (any_from (is_near h d) (h.neighbours i) j w e)

  -- near at one wire more is near, or has a neighbour that is
  pub near_cases : (d i : ℕ) → is_near h (suc d) i ≡ true → (is_near h d i ≡ true) ⊎ ((j : ℕ) × (is_wired h i j ≡ true) × (is_near h d j ≡ true))
  unfolding is_near
  near_cases d i e = ⊎_elim (λ t. inl t) (λ t. inr (any_found (is_near h d) (h.neighbours i) t)) (or_cases _ _ e)

  -- what is near has a way to it, and where a way leads is near
  pub near_way : (d i : ℕ) → i < h.count → is_near h d i ≡ true → (m : ℕ) × Way h (root_of h) i m × (m ≤ d)
  unfolding is_near
  near_way zero i l e = (zero, subst (λ k. Way h (root_of h) k zero) (sym (eqb-true i (root_of h) e)) stay, omega arith)
  near_way (suc d) i l e =
      ⊎_elim
      (λ t. let w = near_way d i l t in (w.0, w.1, omega (arith, w.2)))
      (λ f. let w = near_way d f.0 (s.within i f.0 (l, f.1)) f.2 in (suc w.0, step w.1 (s.both i f.0 (l, f.1)), omega (arith, w.2)))
      (near_cases d i e)

  way_within : (a b n : ℕ) → a < h.count → Way h a b n → b < h.count
  way_within a b zero l stay = l
  way_within a b (suc n) l (step w e) = s.within _ b (way_within a _ n l w, e)

  pub way_near : (i m : ℕ) → Way h (root_of h) i m → is_near h m i ≡ true
  unfolding is_near
  way_near i zero stay = eq-eqb _ _ refl
  way_near i (suc m) (step w e) = near_across m i _ (s.both _ i (way_within (root_of h) _ m root_lowest.0 w, e)) (way_near _ m w)

  -- as far as there are lamps no nearer, each wire more reaches more lamps: else the near ones are all that any way leads to
  module _ (i m d : ℕ) (l : i < h.count) (reached : is_near h m i ≡ true) (far : is_near h d i ≡ false) where
    closed : (k : ℕ) → ((j : ℕ) → j < h.count → is_near h (suc k) j ≡ true → is_near h k j ≡ true) → (n j : ℕ) → j < h.count → is_near h n j ≡ true → is_near h k j ≡ true
    closed k stops zero j l e = subst (λ x. is_near h x j ≡ true) (omega arith) (near_add zero k j e)
    closed k stops (suc n) j l e =
        ⊎_elim
        (λ t. closed k stops n j l t)
        (λ f. stops j l (near_across k j f.0 f.1 (closed k stops n f.0 (s.within j f.0 (l, f.1)) f.2)))
        (near_cases n j e)

    grows : (k : ℕ) → k ≤ suc d → suc k ≤ many (is_near h k) h.count
    unfolding is_near
    grows zero le = some_pass (is_near h zero) h.count (root_of h) root_lowest.0 (eq-eqb _ _ refl)
    grows (suc k) le =
        let before = grows k (omega arith) in
        ⊎_elim
        (λ more. omega arith)
        (λ same.
        let stops = same_pass (is_near h k) (is_near h (suc k)) h.count (λ j _. near_more k j) same in
        let gap : (x : ℕ) × (x + k ≡ d) = difference k d (omega arith) in
        absurd (both_ways _ far (subst (λ x. is_near h x i ≡ true) gap.1 (near_add k gap.0 i (closed k stops m i l reached)))))
        (cases_lt (many (is_near h k) h.count) (many (is_near h (suc k)) h.count))

    -- so what is not near at d wires leaves more lamps than d + 1
    many_lamps : suc (suc d) ≤ h.count
    many_lamps = omega (arith, grows (suc d) (omega arith), few_pass (is_near h (suc d)) h.count)

  -- every lamp is near at one wire less than there are lamps
  pub near_all : (d i : ℕ) → i < h.count → h.count ≡ suc d → is_near h d i ≡ true
  near_all d i l e =
      ⊎_elim
      (λ near. near)
      (λ far.
      absurd (s.joined (root_of h) i (root_lowest.0, l, λ m way. let few = many_lamps i m d l (way_near i m way) far in omega arith)))
      (cases_Bool (is_near h d i))
