-- Stable nets: no doing changes them, what claims lead to is true of them, and one round more makes a net stable in which all tellings are right.
use Rattle.std.proofs.Common.{◌≡◌, ℕ, zero, suc, true, List, [], ◌∷◌, map, sym, refl, ap, ◌∙◌, subst, ap₂}
use Rattle.std.proofs.lemmas.Bool.{or_left, or_right, eq-eqb}
use Rattle.telling.specs.declared.Telling.{Telling}
use Rattle.telling.specs.declared.frame.Reading.TheVariants.{Told}
use Rattle.protocol.specs.declared.state.Numbers.{Numbers}
use Rattle.protocol.specs.Rows.{Neighbour, has_wire}
use Rattle.protocol.specs.Rules.{worked}
use Rattle.model.specs.declared.Doing.{Doing}
use Rattle.model.specs.Halls.{Hall, Sound, own_of, is_wired}
use Rattle.model.specs.Nets.{Net, row_from, did, ran}
use Rattle.model.specs.Rounds.{Fits, AllFit, Round}
use Rattle.model.specs.Stages.{Throughout, LeadsTo}
use Rattle.model.specs.Stable.{Stable}
use Rattle.model.proofs.Doings.{keeps, lamp_did, line_did, heard_did}
use Rattle.model.proofs.Ladder.{told_same, tells_next, kept, lamps_after, put}

-- nets with the same lamps, wires and memories are the same
net_same :
    (m n : Net) → ((k : ℕ) → m.lamp k ≡ n.lamp k) → ((j i : ℕ) → m.line i j ≡ n.line i j) → ((j i : ℕ) → m.heard j i ≡ n.heard j i) → m ≡ n
net_same m n lamps wires memories = λ x. record { lamp = λ k. lamps k x; line = λ i j. wires j i x; heard = λ j i. memories j i x }

-- a row has only what is remembered of wired places
row_same :
    (ps : List ℕ) (f g : ℕ → Telling) → ((j : ℕ) → has_wire ps j ≡ true → f j ≡ g j) →
    ◌≡◌ {A = List Neighbour} (map (λ j. record { place = j; telling = f j }) ps) (map (λ j. record { place = j; telling = g j }) ps)
unfolding has_wire
row_same [] f g same = refl
row_same (p ∷ ps) f g same =
    ap₂ (λ t (ns : List Neighbour). record { place = p; telling = t } ∷ ns)
    (same p (or_left _ _ (eq-eqb p p refl)))
    (row_same ps f g (λ j wired. same j (or_right _ _ wired)))

module _ (h : Hall) (s : Sound h) where
  module _ (n : Net) (stable : Stable h n) where
    -- what a doing writes stands there already
    pub stable_same : (d : Doing) → Fits h d → did h d n ≡ n
    stable_same d fit =
        net_same (did h d n) n
        (λ k. lamp_did h s (λ w. w ≡ n.lamp k) d fit n k (λ there. sym (stable.lamps k there)) refl)
        (λ j i. line_did h s (λ r. r ≡ n.line i j) d fit n j i (λ f. sym (stable.wires j i f)) refl)
        (λ j i. heard_did h s (λ t. t ≡ n.heard j i) d fit n j i (λ f t e. told_same t _ (sym e ∙ stable.wires j i f) ∙ sym (stable.memories j i f)) refl)

    pub stable_ran : (ds : List Doing) → AllFit h ds → ran h ds n ≡ n
    stable_ran ds fit = keeps h (λ m. m ≡ n) (λ d f m e. ap (did h d) e ∙ stable_same d f) ds fit n refl

  -- in a stable net all tellings are what lamps tell now
  pub stable_rung : (C D : ℕ → ℕ → Telling → Type 0) → LeadsTo h C D → (n : Net) → Stable h n → Throughout h C n → Throughout h D n
  stable_rung C D leads n stable all =
      record {
        memories = λ j i f. subst (D i j) (sym (stable.memories j i f)) (tells_next h s C D leads n all j i f);
        wires = λ j i f t e. subst (D i j) (told_same _ t (sym (stable.wires j i f) ∙ e)) (tells_next h s C D leads n all j i f);
      }

  pub stable_climb :
      (C : ℕ → ℕ → ℕ → Telling → Type 0) → ((k : ℕ) → LeadsTo h (C k) (C (suc k))) →
      (k : ℕ) (n : Net) → Stable h n → Throughout h (C 0) n → Throughout h (C k) n
  stable_climb C leads zero n stable all = all
  stable_climb C leads (suc k) n stable all = stable_rung (C k) (C (suc k)) (leads k) n stable (stable_climb C leads k n stable all)

  module _ (right : ℕ → ℕ → Telling) (leads : LeadsTo h (λ i j t. t ≡ right i j) (λ i j t. t ≡ right i j)) where
    abbrev Rightly : ℕ → ℕ → Telling → Type 0
    Rightly i j t = t ≡ right i j

    -- what lamp i works out from right tellings
    abbrev works : ℕ → Numbers
    works i = worked (own_of h i) (row_from h i (λ j. right j i))

    works_right : (i : ℕ) (heard : ℕ → Telling) → ((j : ℕ) → is_wired h i j ≡ true → heard j ≡ right j i) → worked (own_of h i) (row_from h i heard) ≡ works i
    works_right i heard same = ap (worked (own_of h i)) (row_same (h.neighbours i) heard (λ j. right j i) same)

    -- one round after all tellings are right the net is stable
    pub stable_after : (n : Net) → Throughout h (λ i j t. t ≡ right i j) n → (r : List Doing) → Round h r → Stable h (ran h r n)
    stable_after n all r round =
        let m : Net = ran h r n in
        let still : Throughout h Rightly m = kept h s Rightly leads r round.fits n all in
        let now = tells_next h s Rightly Rightly leads m still in
        record {
          lamps = λ i there.
              lamps_after h s Rightly leads (λ k w. w ≡ works k) (λ k heard _ same. works_right k heard same) r round n all i there ∙
              sym (works_right i (m.heard i) (λ j wired. still.memories i j (there, wired)));
          wires = λ j i f. let p = put h s Rightly leads Rightly leads r round n all j i f in p.1 ∙ ap Told (p.2 ∙ sym (now j i f));
          memories = λ j i f. still.memories j i f ∙ sym (now j i f);
        }
