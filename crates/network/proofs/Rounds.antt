-- The doings of a hall, in any order that exchanges reach, are a round.
use Rattle.std.proofs.Common.{◌≡◌, ℕ, zero, suc, ◌%◌, ◌<◌, ◌≤◌, true, eqb, List, [], ◌∷◌, map, length, get_or, vec_items, sym, refl, ap, ◌∙◌, subst, ⊎_elim, mod-lt, arith}
use Rattle.std.specs.List.Sorted.{IsPermutation}
use Rattle.std.specs.List.{swap, ContainsAt, flat_map, AllByRecursion}
use Rattle.std.proofs.ByRecursion.{All-append, All-map, all_from_every, has_append_left, has_append_right, all_shuffled, has_shuffled}
use Rattle.std.proofs.lemmas.List.{get_or-map, length-map, get_or_default}
use Rattle.std.proofs.lemmas.List.Sorted.{IsPermutation-refl, IsPermutation-trans, length_permutation}
use Rattle.std.proofs.lemmas.Bool.{or_cases, eqb-true, false≢true}
use Rattle.protocol.specs.declared.facts.Site.{Site}
use Rattle.protocol.specs.Rows.{places_of, has_wire}
use Rattle.model.specs.declared.Doing.{Doing}
use Rattle.model.specs.declared.Doing.TheVariants.{Work, Hear}
use Rattle.model.specs.Halls.{is_wired}
use Rattle.model.specs.Rounds.{Fits}
use Rattle.topology.specs.declared.hall.Topology.{Topology}
use Rattle.topology.specs.Reading.{hall_of}
use Rattle.network.specs.Sequence.{next_of, draw_at}
use Rattle.network.specs.Order.{hearings_of, doings_in, shuffled_from, order_of}
use Rattle.network.specs.Laws.{RoundsAreRounds}
use Rattle.network.proofs.Sites.{neighbours_at}
use Rattle.network.proofs.Tables.{has_at, head_of}

-- exchanges only reorder
exchanged_once : (ds : List Doing) (i j : ℕ) → i < length ds → j < length ds → IsPermutation ds (swap ds i j)
exchanged_once ds i j l m = record { moves = (i, j) ∷ []; below = (l, m, tt); is = refl }

only_reordered : (k s : ℕ) (ds : List Doing) → k ≤ length ds → IsPermutation ds (shuffled_from k s ds)
unfolding shuffled_from
only_reordered zero s ds l = IsPermutation-refl ds
only_reordered (suc k) s ds l =
    let other : ℕ = draw_at (next_of s) % suc k in
    let below : other < suc k = mod-lt (draw_at (next_of s)) {m = suc k} (omega arith) in
    let once : IsPermutation ds (swap ds k other) = exchanged_once ds k other (omega arith) (omega arith) in
    IsPermutation-trans ds (swap ds k other) _ once (only_reordered k (next_of s) (swap ds k other) (omega (arith, length_permutation ds (swap ds k other) once)))

-- lists that the elements of a list give
all_joined : {X Y : Type 0} (P : Y → Type 0) (f : X → List Y) (xs : List X) → AllByRecursion (λ x. AllByRecursion P (f x)) xs → AllByRecursion P (flat_map f xs)
all_joined P f [] a = tt
all_joined P f (x ∷ xs) a = All-append P (f x) (flat_map f xs) a.0 (all_joined P f xs a.1)

has_joined : {X Y : Type 0} (f : X → List Y) (xs : List X) (k : ℕ) (d : X) (y : Y) → k < length xs → ContainsAt (f (get_or xs k d)) y → ContainsAt (flat_map f xs) y
has_joined f [] k d y l has = absurd (omega arith)
has_joined f (x ∷ xs) zero d y l has = has_append_left (f x) (flat_map f xs) y has
has_joined f (x ∷ xs) (suc k) d y l has = has_append_right (f x) (flat_map f xs) y (has_joined f xs k d y (omega arith) has)

has_map : {X Y : Type 0} (f : X → Y) (xs : List X) (k : ℕ) (d : X) (y : Y) → k < length xs → f (get_or xs k d) ≡ y → ContainsAt (map f xs) y
has_map f xs k d y l e = (k, omega (arith, length-map xs f), λ z. get_or-map f xs k d z l ∙ e)

-- where a place stands that is wired
wire_index : (ps : List ℕ) (i : ℕ) → has_wire ps i ≡ true → (k : ℕ) × (k < length ps) × (get_or ps k 0 ≡ i)
unfolding has_wire
wire_index [] i e = absurd (false≢true e)
wire_index (p ∷ ps) i e =
    ⊎_elim {B = has_wire ps i ≡ true} (λ here. (0, omega arith, eqb-true p i here))
    (λ there. let rest = wire_index ps i there in (suc rest.0, omega (arith, rest.1), rest.2))
    (or_cases (eqb p i) (has_wire ps i) e)

module _ (t : Topology) where
  abbrev sites : List Site
  sites = vec_items t.sites

  works_fit : AllByRecursion (Fits (hall_of t)) (map (λ (s : Site). Work s.own.place) sites)
  works_fit =
      All-map (Fits (hall_of t)) (λ (s : Site). Work s.own.place) sites
      (all_from_every (λ (s : Site). s.own.place < (hall_of t).count) sites (λ k d low l. subst (λ i. i < (hall_of t).count) (sym (t.placed k d l)) l))

  hearings_fit : (k : ℕ) (d : Site) → k < length sites → AllByRecursion (Fits (hall_of t)) (hearings_of (get_or sites k d))
  hearings_fit k d l =
      let s : Site = get_or sites k d in
      All-map (Fits (hall_of t)) (Hear s.own.place) (places_of s)
      (all_from_every (λ i. Fits (hall_of t) (Hear s.own.place i)) (places_of s)
      (λ m e low n. (
        subst (λ i. i < (hall_of t).count) (sym (t.placed k d l)) l,
        ap (λ j. is_wired (hall_of t) j (get_or (places_of s) m e)) (t.placed k d l) ∙ ap (λ ps. has_wire ps (get_or (places_of s) m e)) (neighbours_at t.most sites k d l)
            ∙ has_at (places_of s) m (get_or (places_of s) m e) n (get_or_default (places_of s) m 0 e n),
      )))

  all_fit : AllByRecursion (Fits (hall_of t)) (doings_in sites)
  all_fit =
      All-append (Fits (hall_of t)) (map (λ (s : Site). Work s.own.place) sites) (flat_map hearings_of sites) works_fit
      (all_joined (Fits (hall_of t)) hearings_of sites (all_from_every (λ s. AllByRecursion (Fits (hall_of t)) (hearings_of s)) sites (λ k d low l. hearings_fit k d l)))

  all_there : (d : Doing) → Fits (hall_of t) d → ContainsAt (doings_in sites) d
  all_there (Work i) fits =
      let s : Site = head_of sites i fits in
      has_append_left (map (λ (s : Site). Work s.own.place) sites) (flat_map hearings_of sites) (Work i)
      (has_map (λ (s : Site). Work s.own.place) sites i s (Work i) fits (ap Work (t.placed i s fits)))
  all_there (Hear j i) fits =
      let d : Site = head_of sites j fits.0 in
      let s : Site = get_or sites j d in
      let wire = wire_index (places_of s) i (ap (λ ps. has_wire ps i) (sym (neighbours_at t.most sites j d fits.0)) ∙ fits.1) in
      has_append_right (map (λ (s : Site). Work s.own.place) sites) (flat_map hearings_of sites) (Hear j i)
      (has_joined hearings_of sites j d (Hear j i) fits.0
      (has_map (Hear s.own.place) (places_of s) wire.0 0 (Hear j i) wire.1 (ap (λ p. Hear p (get_or (places_of s) wire.0 0)) (t.placed j d fits.0) ∙ ap (Hear j) wire.2)))

pub rounds_are_rounds : RoundsAreRounds
rounds_are_rounds t seed =
    let ds : List Doing = doings_in (vec_items t.sites) in
    let order : IsPermutation ds (order_of seed ds) = only_reordered (length ds) seed ds (omega arith) in
    record { fits = all_shuffled (Fits (hall_of t)) ds (order_of seed ds) order (all_fit t); whole = λ d fits. has_shuffled ds (order_of seed ds) d order (all_there t d fits) }
