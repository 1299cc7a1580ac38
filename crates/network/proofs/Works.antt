-- A lamp's work in the state of a hall.
use Rattle.std.proofs.Common.{◌≡◌, ℕ, ◌+◌, ◌*◌, ◌<◌, ◌≤◌, Bool, true, false, cond, ◌&&◌, ◌||◌, eqb, List, [], ◌∷◌, ◌++◌, map, length, get_or, Some, None, vec_items, sym, refl, ap, ◌∙◌, subst, ⊎_elim, arith}
use mathlib.Core.Bool.{or_assoc}
use Rattle.std.specs.Option.{option_map as mapped}
use Rattle.std.proofs.lemmas.List.{same_lists, get_or-map, length-map, get_or-take}
use Rattle.std.proofs.lemmas.Bool.{eq-eqb, eqb-true, ne_eqb, eqb-false, and_right, cond-false, cases_Bool}
use Rattle.telling.specs.declared.Telling.{Telling}
use Rattle.telling.specs.declared.frame.Reading.{Reading}
use Rattle.telling.specs.declared.frame.Reading.TheVariants.{Told}
use Rattle.protocol.specs.declared.facts.Site.{Site}
use Rattle.protocol.specs.declared.state.Lamp.{Lamp}
use Rattle.protocol.specs.declared.state.Numbers.{Numbers}
use Rattle.protocol.specs.declared.state.Work.{Work}
use Rattle.protocol.specs.Rows.{Neighbour, row_of, places_of, has_wire, Wire, remembered}
use Rattle.protocol.specs.Rules.{nothing, telling_at, telling_with, worked, tells}
use Rattle.protocol.specs.Works.{Worked}
use Rattle.protocol.specs.Memories.{Recalls}
use Rattle.protocol.proofs.Rows.{length-row, get_or-row, length-places_of}
use Rattle.protocol.proofs.Wires.{said_there}
use Rattle.model.specs.Halls.{Hall, own_of}
use Rattle.model.specs.Nets.{Net, row_in, noted, laid, telling, working}
use Rattle.topology.specs.declared.hall.Topology.{Topology}
use Rattle.topology.specs.Reading.{hall_of}
use Rattle.network.specs.declared.state.State.{State}
use Rattle.network.specs.Words.{telling_in}
use Rattle.network.specs.Slots.{neighbour, SiteOf, told_by}
use Rattle.network.specs.Stands.{Roomy, Stands, Becomes, MemoriesStand}
use Rattle.network.proofs.Sites.{no_lamp}
use Rattle.network.proofs.Tables.{one_wire}
use Rattle.network.proofs.Changes.{same_lamps}

-- a row read from a lamp's slots is the row of the net
pub row_stands :
    (h : Hall) (i : ℕ) (s : Site) (memories : List ℕ) (heard : List Telling) (n : Net) → SiteOf h i s → length heard ≡ 16 →
    Recalls (λ k. telling_in memories (16 * i + k)) heard (length (places_of s)) → MemoriesStand h memories n.heard → row_of (places_of s) heard ≡ row_in h n i
row_stands h i s memories heard n site long recalls stands =
    let wires = length-places_of s in
    let few = s.few in
    let row = length-row (places_of s) heard (omega arith) in
    let same : length (h.neighbours i) ≡ length (places_of s) = ap length site.places in
    let mapped : length (row_in h n i) ≡ length (h.neighbours i) = length-map (h.neighbours i) _ in
    same_lists _ _ (omega arith)
    (λ k d l.
    let inside : k < length (places_of s) = omega arith in
    let inside' : k < length (h.neighbours i) = omega arith in
    let left = get_or-row (places_of s) heard k d nothing (omega arith) inside in
    let right = get_or-map (λ j. record { place = j; telling = n.heard i j }) (h.neighbours i) k 0 d inside' in
    let place : get_or (h.neighbours i) k 0 ≡ get_or (places_of s) k 0 = ap (λ ps. get_or ps k 0) site.places in
    let said : get_or heard k nothing ≡ n.heard i (get_or (h.neighbours i) k 0) = recalls k inside ∙ stands i k site.lamp inside' in
    cc)

same_some : {X : Type 0} (x y : X) → Some x ≡ Some y → x ≡ y
same_some x y e = cc

-- what a lamp with a site and a row works out and tells
pub work_is :
    (h : Hall) (i : ℕ) (s : Site) (heard : List Telling) (before after : Lamp) (w : Work) (row : List Neighbour) → SiteOf h i s →
    before ≡ record { site = s; heard = heard; last = None } → Worked before after → Some w ≡ after.last → row_of (places_of s) heard ≡ row →
    (told_by s w ≡ tells (own_of h i) row) × (w.numbers ≡ worked (own_of h i) row)
work_is h i s heard before after w row at was did last same =
    let site : before.site ≡ s = ap (λ (l : Lamp). l.site) was in
    let own : before.site.own ≡ own_of h i = ap (λ (s : Site). s.own) site ∙ at.own in
    let rows : remembered before ≡ row = ap remembered was ∙ same in (
      same_some _ _ (ap (λ o. mapped (told_by s) o) last ∙ ap (λ st. mapped (told_by st) after.last) (sym (did.site ∙ site)) ∙ did.wires
          ∙ ap (λ own. Some (tells own (remembered before))) own ∙ ap (λ r. Some (tells (own_of h i) r)) rows),
      same_some _ _ (ap (mapped (λ w. w.numbers)) last ∙ did.numbers ∙ ap (λ own. Some (worked own (remembered before))) own ∙ ap (λ r. Some (worked (own_of h i) r)) rows),
    )

-- a net in which lamp i has put tellings on its wires to some places
abbrev pub part_told : ℕ → List ℕ → List Neighbour → Net → Net
part_told i ps told n = record { lamp = n.lamp; line = λ k l. cond (eqb k i && has_wire ps l) (Told (telling_at l told)) (n.line k l); heard = n.heard }

turned : (p q : ℕ) → eqb p q ≡ eqb q p
turned p q =
    ⊎_elim (λ e. e ∙ sym (eq-eqb q p (sym (eqb-true p q e)))) (λ e. e ∙ sym (ne_eqb q p (λ s. eqb-false p q e (sym s)))) (cases_Bool (eqb p q))

or_none : (b : Bool) → (b || false) ≡ b
or_none true = refl
or_none false = refl

has_more : (ps : List ℕ) (p q : ℕ) → has_wire (ps ++ p ∷ []) q ≡ (has_wire ps q || eqb q p)
unfolding has_wire
has_more [] p q = or_none (eqb p q) ∙ turned p q
has_more (x ∷ ps) p q = ap (λ b. eqb x q || b) (has_more ps p q) ∙ sym (or_assoc (eqb x q) (has_wire ps q) (eqb q p))

cond_more : (a b h : Bool) (r y x : Reading) → (b ≡ true → r ≡ y) → cond (a && b) r (cond (a && h) y x) ≡ cond (a && (h || b)) y x
cond_more true true true r y x e = e refl
cond_more true true false r y x e = e refl
cond_more true false true r y x e = refl
cond_more true false false r y x e = refl
cond_more false b h r y x e = refl

-- a place more
lines_more :
    (i p : ℕ) (ps : List ℕ) (r : Reading) (told : List Neighbour) (x : Reading) (k l : ℕ) → r ≡ Told (telling_at p told) →
    cond (eqb k i && eqb l p) r (cond (eqb k i && has_wire ps l) (Told (telling_at l told)) x) ≡ cond (eqb k i && has_wire (ps ++ p ∷ []) l) (Told (telling_at l told)) x
lines_more i p ps r told x k l e =
    cond_more (eqb k i) (eqb l p) (has_wire ps l) r (Told (telling_at l told)) x (λ same. e ∙ ap (λ q. Told (telling_at q told)) (sym (eqb-true l p same)))
    ∙ ap (λ b. cond (eqb k i && b) (Told (telling_at l told)) x) (sym (has_more ps p l))

module _ (t : Topology) (s : State) where
  pub told_none : (i : ℕ) (told : List Neighbour) → Roomy (hall_of t) s → Becomes (hall_of t) s s (part_told i [] told)
  unfolding has_wire
  told_none i told room =
      record {
        room = room;
        stands = λ n stands.
            record {
              lamps = stands.lamps;
              wires = λ j k l m. stands.wires j k l m ∙ sym (cond-false _ _ _ (and_right (eqb (neighbour (hall_of t) j k) i) false refl));
              memories = stands.memories;
            };
      }

  -- what a lamp tells on its k-th wire
  module _ (i : ℕ) (site : Site) (w : Work) (at : SiteOf (hall_of t) i site) (k : ℕ) (inside : k < length (places_of site)) where
    pub told_kth : telling_with w.numbers (get_or w.given k 0) ≡ telling_at (get_or (places_of site) k 0) (told_by site w)
    told_kth =
        let long = length-places_of site in
        let here : get_or (places_of site) k 0 ≡ get_or site.places k 0 = get_or-take site.wires site.places k 0 (omega arith) in
        let wire : Wire site (get_or (places_of site) k 0) k =
        record {
          there = omega arith;
          leads = sym here;
          first = λ j l e.
              let e' : neighbour (hall_of t) i j ≡ neighbour (hall_of t) i k =
              ap (λ ps. get_or ps j 0) at.places ∙ get_or-take site.wires site.places j 0 (omega arith) ∙ e ∙ ap (λ ps. get_or ps k 0) (sym at.places) in
              omega (arith, one_wire t i at.lamp j k (omega (arith, ap length at.places)) (omega (arith, ap length at.places)) e');
        } in
        let full = w.full in
        let few = site.few in
        sym (said_there site (get_or (places_of site) k 0) k wire (map (telling_with w.numbers) w.given) (length-map w.given (telling_with w.numbers) ∙ full)
        ∙ get_or-map (telling_with w.numbers) w.given k 0 nothing (omega arith))

  pub told_more :
      (s' s'' : State) (i p : ℕ) (ps : List ℕ) (said : Telling) (told : List Neighbour) → said ≡ telling_at p told → Becomes (hall_of t) s s' (part_told i ps told) →
      Becomes (hall_of t) s' s'' (laid i p (Told said)) → Becomes (hall_of t) s s'' (part_told i (ps ++ p ∷ []) told)
  told_more s' s'' i p ps said told e before step =
      record {
        room = step.room;
        stands = λ n stands.
            let now = step.stands _ (before.stands n stands) in
            record {
              lamps = now.lamps;
              wires = λ j k l m. now.wires j k l m ∙ lines_more i p ps (Told said) told (n.line (neighbour (hall_of t) j k) j) (neighbour (hall_of t) j k) j (ap Told e);
              memories = now.memories;
            };
      }

  -- the whole work
  pub worked_there :
      (s' s'' : State) (i : ℕ) (told : List Neighbour) (w : Numbers) → Becomes (hall_of t) s s' (telling (hall_of t) i told) → Becomes (hall_of t) s' s'' (noted i w) →
      ((n : Net) → Stands (hall_of t) s n → (told ≡ tells (own_of (hall_of t) i) (row_in (hall_of t) n i)) × (w ≡ worked (own_of (hall_of t) i) (row_in (hall_of t) n i))) →
      Becomes (hall_of t) s s'' (working (hall_of t) i)
  worked_there s' s'' i told w first then is =
      record {
        room = then.room;
        stands = λ n stands.
            subst (λ u. Stands (hall_of t) s'' (noted i u (telling (hall_of t) i (tells (own_of (hall_of t) i) (row_in (hall_of t) n i)) n))) (is n stands).1
            (subst (λ row. Stands (hall_of t) s'' (noted i w (telling (hall_of t) i row n))) (is n stands).0 (then.stands _ (first.stands n stands)));
      }

  pub worked_none : Roomy (hall_of t) s → (i : ℕ) → (hall_of t).count ≤ i → Becomes (hall_of t) s s (working (hall_of t) i)
  worked_none room i past =
      record {
        room = room;
        stands = λ n stands.
            let same = (same_lamps t s room i (worked (own_of (hall_of t) i) (row_in (hall_of t) n i)) past).stands n stands in
            record {
              lamps = same.lamps;
              wires = λ j k l m. same.wires j k l m ∙ sym (cond-false _ _ _ (and_right _ _ (no_lamp t (vec_items t.sites) refl i j past)));
              memories = same.memories;
            };
      }
