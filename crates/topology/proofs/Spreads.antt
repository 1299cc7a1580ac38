-- A pass that reaches lamps whose neighbours are reached.
use Rattle.std.proofs.Common.{◌≡◌, ℕ, zero, suc, ◌+◌, ◌<◌, ◌≤◌, Bool, true, false, cond, not, ◌&&◌, ◌||◌, eqb, MatchBool, List, [], ◌∷◌, length, get_or, set, replicate, sym, refl, ap, ◌∙◌, subst, ⊎_elim, arith, below_more}
use mathlib.Core.Bool.{or-true, or-false}
use Rattle.std.specs.List.{AllWithin, HoldsAt, list_any}
use Rattle.std.proofs.lemmas.List.Recursion.{same_from_clauses}
use Rattle.std.proofs.lemmas.List.{get_or_read, get_or-map, get_or-set_same, get_or-set_other, length-set, length-replicate, get_or-replicate, get_or_past}
use Rattle.std.proofs.lemmas.List.Sums.{sum_by-set}
use Rattle.std.proofs.lemmas.Bool.{or_cases, or_left, or_right, eqb-true, eq-eqb, and_parts, not-true, cases_eq, cases_lt, cases_Bool, both_ways}
use Rattle.protocol.specs.declared.facts.Site.{Site}
use Rattle.protocol.specs.Rows.{has_wire, places_of}
use Rattle.model.specs.Halls.{Hall, Way, stay, step, is_wired, WiresWithin, WiredBothWays, HangTogether}
use Rattle.model.specs.Assignment.{any_of}
use Rattle.topology.specs.Lamps.{hall_in}
use Rattle.topology.specs.Reach.{is_reached, is_next, with_next, Reachable, NoneNext, unreached, Spread, WhetherJoined}
use Rattle.topology.proofs.Ways.{join_ways, way_within, turn_way}

-- a place of a list that passes a test
module _ (test : ℕ → Bool) where
  any_found : (ps : List ℕ) → any_of test ps ≡ true → (p : ℕ) × (has_wire ps p ≡ true) × (test p ≡ true)
  unfolding any_of has_wire
  any_found [] e = absurd (both_ways _ refl e)
  any_found (q ∷ ps) e =
      ⊎_elim
      (λ t. (q, or_left _ _ (eq-eqb q q refl), t))
      (λ t. let f = any_found ps t in (f.0, or_right _ _ f.1, f.2))
      (or_cases (test q) (any_of test ps) e)

  any_from : (ps : List ℕ) (p : ℕ) → has_wire ps p ≡ true → test p ≡ true → any_of test ps ≡ true
  unfolding any_of has_wire
  any_from [] p e t = absurd (both_ways _ refl e)
  any_from (q ∷ ps) p e t =
      ⊎_elim
      (λ f. or_left _ _ (ap test (eqb-true q p f) ∙ t))
      (λ f. or_right _ _ (any_from ps p f t))
      (or_cases (eqb q p) (has_wire ps p) e)

  pub any_is : (ps : List ℕ) → list_any test ps ≡ any_of test ps
  unfolding any_of
  any_is = same_from_clauses (list_any test) (any_of test) (λ p any. test p || any) refl (λ _ _. refl) (λ _ _. refl)

none_yet : (n i : ℕ) → get_or (replicate n false) i false ≡ false
none_yet n i =
    ⊎_elim
    (λ l. get_or-replicate n i false false l)
    (λ l. get_or_past (replicate n false) i false (omega (arith, length-replicate n false)))
    (cases_lt i n)

not_next : (on near : Bool) → (not on && near) ≡ false → near ≡ true → on ≡ true
not_next true near e t = refl
not_next false near e t = absurd (both_ways near e t)

pub head_of : (sites : List Site) → 1 ≤ length sites → Site
head_of [] some = absurd (omega arith)
head_of (s ∷ sites) some = s

-- the hall of sites, whatever the most that it may have
module _ (sites : List Site) where
  -- a wire of a lamp, by its site
  wire_of : (most i j : ℕ) (d : Site) → i < length sites → is_wired (hall_in most sites) i j ≡ has_wire (places_of (get_or sites i d)) j
  wire_of most i j d l = ap (λ ps. has_wire ps j) (get_or-map places_of sites i d [] l)

  module _ (reached : List Bool) (place : ℕ) (d : Site) (inside : place < length sites) (full : length reached ≡ length sites) where
    -- a lamp that is next can be reached
    next_way :
        (most : ℕ) → WiredBothWays (hall_in most sites) → is_next reached (get_or sites place d) place ≡ true → Reachable (hall_in most sites) reached →
        Reachable (hall_in most sites) (set reached place true)
    next_way most both next ways i e =
        let h : Hall = hall_in most sites in
        let f = any_found (is_reached reached) (places_of (get_or sites place d)) (and_parts _ _ next).1 in
        let way = ways f.0 f.2 in
        let there = both place f.0 (inside, wire_of most place f.0 d inside ∙ f.1) in
        ⊎_elim
        (λ same. (suc way.0, subst (λ k. Way h 0 k (suc way.0)) (sym same) (step way.1 there)))
        (λ other. ways i (sym (get_or-set_other reached place i true false other) ∙ e))
        (cases_eq i place)

    -- and stands among those that are not reached
    next_fewer : is_next reached (get_or sites place d) place ≡ true → unreached (set reached place true) < unreached reached
    next_fewer next =
        let off : is_reached reached place ≡ false = not-true _ (and_parts _ _ next).0 in
        let sum = sum_by-set (λ b. cond b 0 1) reached place true false (omega arith) in
        let one : ◌≡◌ {A = ℕ} (cond (get_or reached place false) 0 1) 1 = ap (λ b. cond b 0 1) off in
        omega arith

    next_kept : (i : ℕ) → is_reached reached i ≡ true → is_reached (set reached place true) i ≡ true
    next_kept i e =
        ⊎_elim
        (λ same. ap (λ k. get_or (set reached place true) k false) same ∙ get_or-set_same reached place true false (omega arith))
        (λ other. get_or-set_other reached place i true false other ∙ e)
        (cases_eq i place)

  -- one lamp more of a pass
  module _ (before reached : List Bool) (grew : Bool) (i : ℕ) (s : Spread sites i before reached grew) where
    not_more : unreached reached ≤ unreached before
    not_more = ⊎_elim (λ t. omega (arith, s.fewer t)) (λ f. omega (arith, ap unreached (s.settled f).0)) (cases_Bool grew)

    module _ (site : Site) (inside : i < length sites) (full : length reached ≡ length sites) (is : site ≡ get_or sites i site) where
      spread_next : is_next reached site i ≡ true → Spread sites (i + 1) before (set reached i true) true
      spread_next e =
          let next : is_next reached (get_or sites i site) i ≡ true = ap (λ s. is_next reached s i) (sym is) ∙ e in
          record {
            long = length-set reached i true ∙ s.long;
            kept = λ j r. next_kept reached i site inside full j (s.kept j r);
            ways = λ most both w. next_way reached i site inside full most both next (s.ways most both w);
            settled = λ f. absurd (both_ways _ f refl);
            fewer = λ _. omega (arith, not_more, next_fewer reached i site inside full next);
          }

      spread_on : is_next reached site i ≡ false → Spread sites (i + 1) before reached grew
      spread_on e =
          let P : ℕ → Type 0 = λ j. (d : Site) → is_next reached (get_or sites j d) j ≡ false in
          record {
            long = s.long;
            kept = s.kept;
            ways = s.ways;
            settled = λ f.
                let p = s.settled f in (
                  p.0,
                  λ j d l. below_more P i (λ k b d. p.1 k d b) (λ d. ap (λ s. is_next reached s i) (sym (get_or_read sites i site inside is d)) ∙ e) j l d,
                );
            fewer = s.fewer;
          }

      pub spread_more :
          (next : Bool) (after : List Bool) (more : Bool) → next ≡ is_next reached site i → after ≡ with_next reached i next →
          more ≡ (grew || next) → Spread sites (i + 1) before after more
      spread_more true after more e a w = rw (a, w ∙ or-true grew) (spread_next (sym e))
      spread_more false after more e a w = rw (a, w ∙ or-false grew) (spread_on (sym e))

  -- nothing but the first lamp is reached
  module _ (some : 1 ≤ length sites) where
    pub begun : (most : ℕ) → Reachable (hall_in most sites) (set (replicate (length sites) false) 0 true)
    begun most i e =
        ⊎_elim
        (λ same. (0, subst (λ k. Way (hall_in most sites) 0 k 0) (sym same) stay))
        (λ other. absurd (both_ways _ (get_or-set_other (replicate (length sites) false) 0 i true false other ∙ none_yet (length sites) i) e))
        (cases_eq i 0)

    pub begun_first : is_reached (set (replicate (length sites) false) 0 true) 0 ≡ true
    begun_first = get_or-set_same (replicate (length sites) false) 0 true false (omega (arith, length-replicate (length sites) false))

    -- no lamp is next: just those are reached that there is a way to
    module _ (reached : List Bool) (most : ℕ) (within : WiresWithin (hall_in most sites)) (both : WiredBothWays (hall_in most sites)) where
      way_reached :
          NoneNext sites reached (length sites) → is_reached reached 0 ≡ true → (n : ℕ) {b : ℕ} → Way (hall_in most sites) 0 b n → is_reached reached b ≡ true
      way_reached closed first zero stay = first
      way_reached closed first (suc n) (step {b} {c} w e) =
          let from : b < length sites = way_within (hall_in most sites) within some n w in
          let to = within b c (from, e) in
          let d = head_of sites some in
          let back = sym (wire_of most c b d to) ∙ both b c (from, e) in
          not_next _ _ (closed c d to) (any_from (is_reached reached) (places_of (get_or sites c d)) b back (way_reached closed first n w))

      pub all_joined : Reachable (hall_in most sites) reached → ((i : ℕ) → i < length sites → is_reached reached i ≡ true) → HangTogether (hall_in most sites)
      all_joined ways all a b p =
          let to-a = ways a (all a p.0) in
          let to-b = ways b (all b p.1) in
          let back = turn_way (hall_in most sites) within both some to-a.0 to-a.1 in
          let way = join_ways (hall_in most sites) back.1 to-b.0 to-b.1 in
          p.2 way.0 way.1

      pub not_joined :
          NoneNext sites reached (length sites) → is_reached reached 0 ≡ true → (k : ℕ) → k < length sites → is_reached reached k ≡ false →
          HangTogether (hall_in most sites) → ⊥
      not_joined closed first k l e joined = joined 0 k (some, l, λ n w. both_ways _ e (way_reached closed first n w))

  -- where a pass came to nothing new, it is told by whether all are reached
  module _ (some : 1 ≤ length sites) (within : WiresWithin (hall_in 0 sites)) (both : WiredBothWays (hall_in 0 sites)) (reached : List Bool) where
    module _ (full : length reached ≡ length sites) (first : is_reached reached 0 ≡ true) where
      module _ (ways : (most : ℕ) → Reachable (hall_in most sites) reached) (closed : NoneNext sites reached (length sites)) where
        pub whether_joined :
            (all : Bool) → MatchBool all (AllWithin (λ b. b ≡ true) reached 0 (length reached)) ((k : ℕ) × (k < length reached) × HoldsAt (λ b. b ≡ false) reached k) →
            WhetherJoined sites all
        whether_joined true all most = all_joined some reached most within both (ways most) (λ i l. all i false (omega arith) (omega arith))
        whether_joined false missed most = not_joined some reached most within both closed first missed.0 (omega (arith, missed.1)) (missed.2 false)
