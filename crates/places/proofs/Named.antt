-- Places that rise, a place put among them, and all that are named, sorted and each once.
use Rattle.std.proofs.Common.{◌≡◌, ℕ, zero, suc, ◌+◌, ◌<◌, ◌≤◌, Bool, true, false, ◌||◌, eqb, ltb, List, [], ◌∷◌, ◌++◌, length, get_or, fold, sym, subst, refl, ap, ◌∙◌, ⊎_elim, arith}
use mathlib.Core.Bool.{or-false, or_self, or_assoc}
use Rattle.std.specs.List.{AllPairs, Contains, dedup}
use Rattle.std.specs.List.Sorted.{IsPermutation, IsSorted}
use Rattle.std.specs.List.Retain.{IsFiltered, DiffersFromLast}
use Rattle.std.proofs.lemmas.List.Filters.{dedup_is}
use Rattle.std.proofs.lemmas.List.Sums.{fold-append}
use Rattle.std.specs.Ordering.{nat_cmp}
use Rattle.std.proofs.lemmas.Bool.{both_ways, cond_both, or_cases, or_left, or_right, ltb-true, ltb-false, eqb-true, eqb-false, eq-eqb}
use Rattle.std.proofs.lemmas.List.Kept.{AllPairs-from_increasing, Contains-dedup_nat, Contains-from_dedup}
use Rattle.std.proofs.lemmas.List.Sorted.{Contains-permutation, IsPermutation-sym}
use Rattle.std.proofs.lemmas.Map.Keys.{IsStrictlyIncreasing-dedup}
use Rattle.protocol.specs.Rows.{has_wire}
use Rattle.places.specs.Places.{with_place, rising_of, RiseFrom, RisingAndWhole}

-- the three ways to put a place among those that begin with p
with_cases :
    (p : ℕ) (ps : List ℕ) (place : ℕ) (P : List ℕ → Type 0) →
    (place < p → P (place ∷ p ∷ ps)) → (place ≡ p → P (p ∷ ps)) → (p < place → P (p ∷ with_place ps place)) →
    P (with_place (p ∷ ps) place)
unfolding with_place
with_cases p ps place P below same above =
    cond_both (ltb place p) _ _ P
    (λ e. below (ltb-true place p e))
    (λ e. cond_both (eqb place p) _ _ P (λ f. same (eqb-true place p f)) (λ f. above (omega (arith, ltb-false place p e, eqb-false place p f))))

with_rises : (low : ℕ) (ps : List ℕ) (place : ℕ) → low ≤ place → RiseFrom low ps → RiseFrom low (with_place ps place)
unfolding with_place RiseFrom
with_rises low [] place l r = (l, tt)
with_rises low (p ∷ ps) place l r =
    with_cases p ps place (RiseFrom low)
    (λ below. (l, (omega arith, r.1)))
    (λ same. r)
    (λ above. (r.0, with_rises (p + 1) ps place (omega arith) r.1))

or_swap : (a b c : Bool) → (a || (b || c)) ≡ (b || (a || c))
or_swap true true c = refl
or_swap true false c = refl
or_swap false b c = refl

with_among : (ps : List ℕ) (place q : ℕ) → has_wire (with_place ps place) q ≡ (eqb place q || has_wire ps q)
unfolding with_place has_wire
with_among [] place q = refl
with_among (p ∷ ps) place q =
    with_cases p ps place (λ xs. has_wire xs q ≡ (eqb place q || (eqb p q || has_wire ps q)))
    (λ below. refl)
    (λ same. rw same (ap (λ b. b || has_wire ps q) (sym (or_self (eqb p q))) ∙ or_assoc (eqb p q) (eqb p q) (has_wire ps q)))
    (λ above. ap (λ b. eqb p q || b) (with_among ps place q) ∙ or_swap (eqb p q) (eqb place q) (has_wire ps q))

all_rise : (named ps : List ℕ) → RiseFrom 0 ps → RiseFrom 0 (fold with_place ps named)
all_rise [] ps r = r
all_rise (n ∷ named) ps r = all_rise named (with_place ps n) (with_rises 0 ps n (omega arith) r)

all_among : (named ps : List ℕ) (q : ℕ) → has_wire (fold with_place ps named) q ≡ (has_wire named q || has_wire ps q)
unfolding has_wire
all_among [] ps q = refl
all_among (n ∷ named) ps q =
    all_among named (with_place ps n) q
    ∙ ap (λ b. has_wire named q || b) (with_among ps n q)
    ∙ or_swap (has_wire named q) (eqb n q) (has_wire ps q)
    ∙ sym (or_assoc (eqb n q) (has_wire named q) (has_wire ps q))

pub rising_and_whole : RisingAndWhole
unfolding RiseFrom has_wire
rising_and_whole named = (all_rise named [] tt, λ place. all_among named [] place ∙ or-false (has_wire named place))

-- places that rise from low have none below it
none_below : (low : ℕ) (ps : List ℕ) (place : ℕ) → RiseFrom low ps → has_wire ps place ≡ true → low ≤ place
unfolding RiseFrom has_wire
none_below low [] place r w = absurd (both_ways _ refl w)
none_below low (p ∷ ps) place r w =
    ⊎_elim
    (λ (here : eqb p place ≡ true). omega (arith, eqb-true p place here, r.0))
    (λ later. omega (arith, none_below (p + 1) ps place r.1 later, r.0))
    (or_cases _ _ w)

first_among : (p : ℕ) (ps : List ℕ) → has_wire (p ∷ ps) p ≡ true
unfolding has_wire
first_among p ps = or_left _ _ (eq-eqb p p refl)

-- lists that rise and have the same places are one
module _ (p : ℕ) (place : ℕ) (above : p + 1 ≤ place) (qs : List ℕ) where
  among_rest : has_wire (p ∷ qs) place ≡ true → has_wire qs place ≡ true
  unfolding has_wire
  among_rest w = ⊎_elim (λ (e : eqb p place ≡ true). absurd (omega (arith, eqb-true p place e))) (λ t. t) (or_cases _ _ w)

rise_alike :
    (low : ℕ) (ps qs : List ℕ) → RiseFrom low ps → RiseFrom low qs → ((place : ℕ) → has_wire ps place ≡ true → has_wire qs place ≡ true) →
    ((place : ℕ) → has_wire qs place ≡ true → has_wire ps place ≡ true) → ps ≡ qs
unfolding RiseFrom has_wire
rise_alike low [] [] r s there back = refl
rise_alike low [] (q ∷ qs) r s there back = absurd (both_ways _ refl (back q (first_among q qs)))
rise_alike low (p ∷ ps) [] r s there back = absurd (both_ways _ refl (there p (first_among p ps)))
rise_alike low (p ∷ ps) (q ∷ qs) r s there back =
    let above = none_below q (q ∷ qs) p (omega arith, s.1) (there p (first_among p ps)) in
    let below = none_below p (p ∷ ps) q (omega arith, r.1) (back q (first_among q qs)) in
    let same : q ≡ p = omega arith in
    let s' : RiseFrom (p + 1) qs = rw same at s.1 in
    rw same
    (ap (λ xs. p ∷ xs) (rise_alike (p + 1) ps qs r.1 s'
    (λ x w. among_rest p x (none_below (p + 1) ps x r.1 w) qs (rw same at (there x (or_right _ _ w))))
    (λ x w. among_rest p x (none_below (p + 1) qs x s' w) ps (back x (rw same (or_right _ _ w))))))

-- a place is among places where it is an element of them
among_from : (ps : List ℕ) (place : ℕ) → Contains ps place → has_wire ps place ≡ true
unfolding has_wire
among_from [] place c = absurd (omega (arith, c.1))
among_from (p ∷ ps) place (zero, l, e) = or_left _ _ (eq-eqb p place e)
among_from (p ∷ ps) place (suc k, l, e) = or_right _ _ (among_from ps place (k, omega arith, e))

element_from : (ps : List ℕ) (place : ℕ) → has_wire ps place ≡ true → Contains ps place
unfolding has_wire
element_from [] place w = absurd (both_ways _ refl w)
element_from (p ∷ ps) place w =
    ⊎_elim
    (λ here. (0, omega arith, eqb-true p place here))
    (λ later. let c = element_from ps place later in (suc c.0, omega (arith, c.1), c.2))
    (or_cases _ _ w)

rise_from_pairs : (low : ℕ) (ps : List ℕ) → (0 < length ps → low ≤ get_or ps 0 0) → AllPairs (λ p q. p < q) ps → RiseFrom low ps
unfolding RiseFrom
rise_from_pairs low [] first up = tt
rise_from_pairs low (p ∷ ps) first up = (
  first (omega arith),
  rise_from_pairs (p + 1) ps (λ l. omega (arith, up 0 1 0 (omega arith) (omega arith))) (λ i j d l m. up (suc i) (suc j) d (omega arith) (omega arith)),
)

-- the places that are named, sorted, and each once
pub sorted_once : (named sorted : List ℕ) → IsPermutation named sorted → IsSorted nat_cmp sorted → dedup eqb sorted ≡ rising_of named
sorted_once named sorted moved up =
    let whole = rising_and_whole named in
    let rise = rise_from_pairs 0 (dedup eqb sorted) (λ _. omega arith) (AllPairs-from_increasing _ (IsStrictlyIncreasing-dedup sorted up)) in
    rise_alike 0 (dedup eqb sorted) (rising_of named) rise whole.0
    (λ x w. whole.1 x ∙ among_from named x (Contains-permutation _ _ x (IsPermutation-sym _ _ moved) (Contains-from_dedup eqb sorted x (element_from _ x w))))
    (λ x w. among_from _ x (Contains-dedup_nat sorted x (Contains-permutation _ _ x moved (element_from named x (sym (whole.1 x) ∙ w)))))

-- places that rise are those that they name
rising_again : (ps : List ℕ) → RiseFrom 0 ps → rising_of ps ≡ ps
rising_again ps r =
    let whole = rising_and_whole ps in
    rise_alike 0 (rising_of ps) ps whole.0 r (λ x w. sym (whole.1 x) ∙ w) (λ x w. whole.1 x ∙ w)

-- rising places and some more, sorted, and each once: what is named from there on makes of them what it makes of both
pub part_more :
    (ps part left sorted kept : List ℕ) → RiseFrom 0 ps → IsPermutation (ps ++ part) sorted → IsSorted nat_cmp sorted → IsFiltered (DiffersFromLast eqb) [] sorted kept →
    RiseFrom 0 kept × (fold with_place kept left ≡ fold with_place ps (part ++ left))
part_more ps part left sorted kept rise moved up filtered =
    let once : kept ≡ rising_of (ps ++ part) = dedup_is _ _ _ filtered ∙ sorted_once (ps ++ part) sorted moved up in
    let more : rising_of (ps ++ part) ≡ fold with_place ps part = fold-append with_place [] ps part ∙ ap (λ qs. fold with_place qs part) (rising_again ps rise) in
    (subst (RiseFrom 0) (sym once) (rising_and_whole (ps ++ part)).0, ap (λ qs. fold with_place qs left) (once ∙ more) ∙ sym (fold-append with_place ps part left))

-- before any part
pub none_yet : (ps named left : List ℕ) → ps ≡ [] → left ≡ named → RiseFrom 0 ps × (fold with_place ps left ≡ rising_of named)
unfolding RiseFrom
none_yet ps named left none all = rw (none, all) (tt, refl)
