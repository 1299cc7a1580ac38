-- Tables by slots: one slot written, and what the table stands for.
use Rattle.std.proofs.Common.{◌≡◌, ℕ, zero, suc, ◌+◌, ◌*◌, ◌<◌, ◌≤◌, Bool, true, false, cond, ◌&&◌, eqb, List, [], ◌∷◌, length, get_or, set, vec_items, sym, refl, ap, ◌∙◌, subst, ⊎_elim, arith}
use Rattle.std.proofs.lemmas.List.{get_or-set_same, get_or-set_other}
use Rattle.std.proofs.lemmas.Bool.{and_parts, and_from, eq-eqb, ne_eqb, eqb-true, leb-true, cases_eq, cases_lt, cases_Bool, cond-true, cond-false, both_ways, or_left, or_right}
use Rattle.telling.specs.declared.Telling.{Telling}
use Rattle.telling.specs.declared.frame.Reading.TheVariants.{Told, Noise}
use Rattle.protocol.specs.declared.facts.Own.{Own}
use Rattle.protocol.specs.declared.facts.Site.{Site}
use Rattle.protocol.specs.declared.state.Numbers.{Numbers}
use Rattle.protocol.specs.Rows.{places_of, has_wire}
use Rattle.protocol.specs.Wiring.{rises_from}
use Rattle.protocol.proofs.Rows.{length-places_of}
use Rattle.model.specs.Halls.{Hall, is_wired}
use Rattle.topology.specs.declared.hall.Topology.{Topology}
use Rattle.topology.specs.Reading.{hall_of}
use Rattle.network.specs.Words.{telling_in, numbers_in, reading_in, TellingPut, NumbersPut}
use Rattle.network.specs.Slots.{neighbour, slot_of, Slot}
use Rattle.network.specs.Stands.{LampsStand}
use Rattle.network.proofs.Sites.{neighbours_at}

-- places that rise are different
module _ (own : Own) where
  from_low : (low p : ℕ) (ps : List ℕ) → rises_from own low (p ∷ ps) ≡ true → (low ≤ p) × (rises_from own (p + 1) ps ≡ true)
  unfolding rises_from
  from_low low p ps r = (leb-true _ _ (and_parts _ _ (and_parts _ _ (and_parts _ _ r).0).0).0, (and_parts _ _ r).1)

  at_least : (low : ℕ) (ps : List ℕ) (k : ℕ) → rises_from own low ps ≡ true → k < length ps → low ≤ get_or ps k 0
  at_least low [] k r l = absurd (omega arith)
  at_least low (p ∷ ps) zero r l = (from_low low p ps r).0
  at_least low (p ∷ ps) (suc k) r l = omega (arith, (from_low low p ps r).0, at_least (p + 1) ps k (from_low low p ps r).1 (omega arith))

  in_turn : (low : ℕ) (ps : List ℕ) (i j : ℕ) → rises_from own low ps ≡ true → i < j → j < length ps → get_or ps i 0 < get_or ps j 0
  in_turn low [] i j r b l = absurd (omega arith)
  in_turn low (p ∷ ps) i zero r b l = absurd (omega arith)
  in_turn low (p ∷ ps) zero (suc j) r b l = omega (arith, at_least (p + 1) ps j (from_low low p ps r).1 (omega arith))
  in_turn low (p ∷ ps) (suc i) (suc j) r b l = in_turn (p + 1) ps i j (from_low low p ps r).1 (omega arith) (omega arith)

  pub different : (ps : List ℕ) (i j : ℕ) → rises_from own 0 ps ≡ true → i < length ps → j < length ps → get_or ps i 0 ≡ get_or ps j 0 → i ≡ j
  different ps i j r k l e =
      ⊎_elim (λ b. absurd (omega (arith, in_turn 0 ps i j r b l)))
      (λ b. ⊎_elim (λ c. absurd (omega (arith, in_turn 0 ps j i r c k))) (λ c. omega arith) (cases_lt j i))
      (cases_lt i j)

rises_of : (s : Site) → rises_from s.own 0 (places_of s) ≡ true
rises_of s = (and_parts _ _ s.sound).1

pub head_of : {X : Type 0} (xs : List X) (k : ℕ) → k < length xs → X
head_of [] k l = absurd (omega arith)
head_of (x ∷ xs) k l = x

-- a lamp of a topology has at most sixteen wires, to different places
module _ (t : Topology) (j : ℕ) (l : j < (hall_of t).count) where
  site : Site
  site = head_of (vec_items t.sites) j l

  here : (hall_of t).neighbours j ≡ places_of (get_or (vec_items t.sites) j site)
  here = neighbours_at t.most (vec_items t.sites) j site l

  pub short : length ((hall_of t).neighbours j) ≤ 16
  short = let s : Site = get_or (vec_items t.sites) j site in omega (arith, ap length here, length-places_of s, s.few)

  pub one_wire : (a b : ℕ) → a < length ((hall_of t).neighbours j) → b < length ((hall_of t).neighbours j) → neighbour (hall_of t) j a ≡ neighbour (hall_of t) j b → a ≡ b
  one_wire a b k m e =
      let s : Site = get_or (vec_items t.sites) j site in
      let rises : rises_from s.own 0 (places_of s) ≡ true = rises_of s in
      different s.own (places_of s) a b rises (omega (arith, ap length here)) (omega (arith, ap length here)) (ap (λ ps. get_or ps a 0) (sym here) ∙ e ∙ ap (λ ps. get_or ps b 0) here)

-- a table, by slot, and what it stands for, by lamp and neighbour
abbrev pub Table : {X : Type 0} → Hall → (ℕ → X) → (ℕ → ℕ → X) → Type 0
Table h f g = (j k : ℕ) → j < h.count → k < length (h.neighbours j) → f (slot_of j k) ≡ g j (neighbour h j k)

pub has_at : (ps : List ℕ) (k i : ℕ) → k < length ps → get_or ps k 0 ≡ i → has_wire ps i ≡ true
unfolding has_wire
has_at [] k i l e = absurd (omega arith)
has_at (p ∷ ps) zero i l e = or_left _ _ (eq-eqb p i e)
has_at (p ∷ ps) (suc k) i l e = or_right _ _ (has_at ps k i (omega arith) e)

pub slot_wired : {h : Hall} {j i s : ℕ} → Slot h j i s → is_wired h j i ≡ true
slot_wired {h} {j} {i} slot = has_at (h.neighbours j) slot.wire i slot.there slot.leads

pub slot_below : (t : Topology) {j i s : ℕ} → Slot (hall_of t) j i s → s < 16 * (hall_of t).count
slot_below t {j} slot = omega (arith, slot.is, slot.there, slot.lamp, short t j slot.lamp)

-- a test for one lamp and one neighbour
pub record Picks (test : ℕ → ℕ → Bool) (j i : ℕ) : Type 0 where
  pub there : test j i ≡ true
  pub only : (a b : ℕ) → test a b ≡ true → (a ≡ j) × (b ≡ i)

pub picks : (j i : ℕ) → Picks (λ a b. eqb a j && eqb b i) j i
picks j i =
    record {
      there = and_from _ _ (eq-eqb j j refl) (eq-eqb i i refl);
      only = λ a b e. (eqb-true a j (and_parts _ _ e).0, eqb-true b i (and_parts _ _ e).1);
    }

pub picks_turned : (j i : ℕ) → Picks (λ a b. eqb b i && eqb a j) j i
picks_turned j i =
    record {
      there = and_from _ _ (eq-eqb i i refl) (eq-eqb j j refl);
      only = λ a b e. (eqb-true a j (and_parts _ _ e).1, eqb-true b i (and_parts _ _ e).0);
    }

module _ {X : Type 0} (t : Topology) (j i : ℕ) (test : ℕ → ℕ → Bool) (pick : Picks test j i) (f : ℕ → X) (g : ℕ → ℕ → X) (x : X) where
  miss : (a b : ℕ) → ((a ≡ j) × (b ≡ i) → ⊥) → test a b ≡ false
  miss a b never = ⊎_elim (λ hit. absurd (never (pick.only a b hit))) (λ m. m) (cases_Bool (test a b))

  -- the slot of j and i is written, and no other
  pub table_put :
      (f' : ℕ → X) (s : ℕ) → Slot (hall_of t) j i s → f' s ≡ x → ((r : ℕ) → (r ≡ s → ⊥) → f' r ≡ f r) → Table (hall_of t) f g →
      Table (hall_of t) f' (λ a b. cond (test a b) x (g a b))
  table_put f' s slot new others table a k l m =
      ⊎_elim
      (λ e.
      let few = short t a l in
      let few' = short t j slot.lamp in
      let same : a ≡ j = omega (arith, slot.is, slot.there) in
      let wire : k ≡ slot.wire = omega (arith, slot.is, slot.there) in
      let to : neighbour (hall_of t) a k ≡ i = ap (λ a. neighbour (hall_of t) a k) same ∙ ap (neighbour (hall_of t) j) wire ∙ slot.leads in
      let hit : test a (neighbour (hall_of t) a k) ≡ true = ap (λ a'. test a' (neighbour (hall_of t) a k)) same ∙ ap (test j) to ∙ pick.there in
      ap f' e ∙ new ∙ sym (cond-true _ _ _ hit))
      (λ ne.
      let missed : test a (neighbour (hall_of t) a k) ≡ false =
      miss a (neighbour (hall_of t) a k)
      (λ both.
      let to : neighbour (hall_of t) j k ≡ neighbour (hall_of t) j slot.wire = ap (λ a. neighbour (hall_of t) a k) (sym both.0) ∙ both.1 ∙ sym slot.leads in
      let there : k < length ((hall_of t).neighbours j) = subst (λ a. k < length ((hall_of t).neighbours a)) both.0 m in
      ne (omega (arith, slot.is, both.0, one_wire t j slot.lamp k slot.wire there slot.there to))) in
      others (slot_of a k) ne ∙ table a k l m ∙ sym (cond-false _ _ _ missed))
      (cases_eq (slot_of a k) s)

  -- where j and i are not wired there is no slot of theirs
  pub table_none : is_wired (hall_of t) j i ≡ false → Table (hall_of t) f g → Table (hall_of t) f (λ a b. cond (test a b) x (g a b))
  table_none none table a k l m =
      let missed : test a (neighbour (hall_of t) a k) ≡ false =
      miss a (neighbour (hall_of t) a k)
      (λ both. both_ways _ none (ap (λ a. is_wired (hall_of t) a i) (sym both.0) ∙ has_at ((hall_of t).neighbours a) k i m both.1)) in
      table a k l m ∙ sym (cond-false _ _ _ missed)

  -- what stands in the slot is written again
  pub table_again : Table (hall_of t) f g → Table (hall_of t) f (λ a b. cond (test a b) (g j i) (g a b))
  table_again table a k l m =
      ⊎_elim
      (λ hit.
      let both = pick.only a (neighbour (hall_of t) a k) hit in
      table a k l m ∙ ap (λ a'. g a' (neighbour (hall_of t) a k)) both.0 ∙ ap (g j) both.1 ∙ sym (cond-true _ _ _ hit))
      (λ missed. table a k l m ∙ sym (cond-false _ _ _ missed))
      (cases_Bool (test a (neighbour (hall_of t) a k)))

-- a wire's slot after a telling was put there and its mark cleared, and after it was marked
module _ (wires wires' noise : List ℕ) (s : ℕ) (room : s < length noise) where
  pub reading_told : (t : Telling) → TellingPut wires wires' s t → reading_in wires' (set noise s 0) s ≡ Told t
  reading_told t put =
      cond-true _ _ _ (ap (λ n. eqb n 0) (get_or-set_same noise s 0 0 room)) ∙ ap Told put.here

  pub reading_others : (t : Telling) (r : ℕ) → (r ≡ s → ⊥) → TellingPut wires wires' s t → reading_in wires' (set noise s 0) r ≡ reading_in wires noise r
  reading_others t r ne put =
      ap (λ n. cond (eqb n 0) (Told (telling_in wires' r)) Noise) (get_or-set_other noise s r 0 0 ne)
      ∙ ap (λ u. cond (eqb (get_or noise r 0) 0) (Told u) Noise) (put.others r ne)

  pub reading_noise : reading_in wires (set noise s 1) s ≡ Noise
  reading_noise = cond-false _ _ _ (ap (λ n. eqb n 0) (get_or-set_same noise s 1 0 room))

  pub reading_else : (r : ℕ) → (r ≡ s → ⊥) → reading_in wires (set noise s 1) r ≡ reading_in wires noise r
  reading_else r ne = ap (λ n. cond (eqb n 0) (Told (telling_in wires r)) Noise) (get_or-set_other noise s r 1 0 ne)

-- the numbers of one lamp written, where there is that lamp
module _ (h : Hall) (lamps lamps' : List ℕ) (lamp : ℕ → Numbers) (i : ℕ) (w : Numbers) (stands : LampsStand h lamps lamp) where
  pub lamps_put : NumbersPut lamps lamps' i w → LampsStand h lamps' (λ k. cond (eqb k i) w (lamp k))
  lamps_put put k l =
      ⊎_elim (λ e. ap (numbers_in lamps') e ∙ put.here ∙ sym (cond-true _ _ _ (eq-eqb k i e))) (λ ne. put.others k ne ∙ stands k l ∙ sym (cond-false _ _ _ (ne_eqb k i ne)))
      (cases_eq k i)

  pub lamps_none : h.count ≤ i → LampsStand h lamps (λ k. cond (eqb k i) w (lamp k))
  lamps_none past k l = stands k l ∙ sym (cond-false _ _ _ (ne_eqb k i (λ e. omega arith)))
