-- Two rounds lead from one claim about tellings to the next, and so up a ladder of claims.
use Rattle.std.proofs.Common.{◌≡◌, ℕ, zero, suc, ◌+◌, ◌*◌, ◌<◌, true, List, [], ◌∷◌, ◌++◌, sym, refl, ap, ◌∙◌, subst, append-nil, arith}
use Rattle.telling.specs.declared.Telling.{Telling}
use Rattle.telling.specs.declared.frame.Reading.{Reading}
use Rattle.telling.specs.declared.frame.Reading.TheVariants.{Told}
use Rattle.protocol.specs.declared.state.Numbers.{Numbers}
use Rattle.protocol.specs.Rules.{worked}
use Rattle.model.specs.declared.Doing.{Doing}
use Rattle.model.specs.declared.Doing.TheVariants.{Work, Hear}
use Rattle.model.specs.Halls.{Hall, Sound, own_of, is_wired}
use Rattle.model.specs.Nets.{Net, row_from, did, ran}
use Rattle.model.specs.Rounds.{Fits, AllFit, Round, Rounds, flat}
use Rattle.model.specs.Stages.{told_from, Throughout, LeadsTo, Passing, Ladder}
use Rattle.model.proofs.Doings.{ran_append, after_none, after_both, keeps, made_in, lamp_did, line_did, heard_did, work_lamp, work_line, hear_heard}

-- what is told on a wire is one thing
pub told_same : (a b : Telling) → Told a ≡ Told b → a ≡ b
told_same a b e = cc

-- a wire can be read, and P is true of what is told there
abbrev pub Tells : (Telling → Type 0) → Reading → Type 0
Tells P r = (t : Telling) × (r ≡ Told t) × P t

tells_only : (P : Telling → Type 0) (r : Reading) → Tells P r → (t : Telling) → r ≡ Told t → P t
tells_only P r p t e = subst P (told_same p.0 t (sym p.1 ∙ e)) p.2

-- and so on all wires
abbrev pub Put : Hall → (ℕ → ℕ → Telling → Type 0) → Net → Type 0
Put h D n = (j i : ℕ) → Fits h (Hear j i) → Tells (D i j) (n.line i j)

module _ (h : Hall) (s : Sound h) where
  module _ (C D : ℕ → ℕ → Telling → Type 0) (leads : LeadsTo h C D) where
    -- what lamp i tells lamp j where it works now
    pub tells_next : (n : Net) → Throughout h C n → (j i : ℕ) → Fits h (Hear j i) → D i j (told_from h i (n.heard i) j)
    tells_next n all j i fit =
        let there : i < h.count = s.within j i fit in
        leads i (n.heard i) there (λ k wired. all.memories i k (there, wired)) j (s.both j i fit)

  -- a claim that leads to itself is kept by every doing
  module _ (C : ℕ → ℕ → Telling → Type 0) (leads : LeadsTo h C C) where
    kept_once : (d : Doing) → Fits h d → (n : Net) → Throughout h C n → Throughout h C (did h d n)
    kept_once d fit n all =
        record {
          memories = λ j i f. heard_did h s (C i j) d fit n j i (λ _ t e. all.wires j i f t e) (all.memories j i f);
          wires = λ j i f.
              line_did h s (λ r. (t : Telling) → r ≡ Told t → C i j t) d fit n j i
              (λ _ t e. subst (C i j) (told_same _ t e) (tells_next C C leads n all j i f))
              (all.wires j i f);
        }

    pub kept : (ds : List Doing) → AllFit h ds → (n : Net) → Throughout h C n → Throughout h C (ran h ds n)
    kept ds fit n all = keeps h (Throughout h C) kept_once ds fit n all

    -- after a round every lamp has worked from memories that the claim is true of
    pub lamps_after :
        (W : ℕ → Numbers → Type 0) →
        ((i : ℕ) (heard : ℕ → Telling) → i < h.count → ((j : ℕ) → is_wired h i j ≡ true → C j i (heard j)) → W i (worked (own_of h i) (row_from h i heard))) →
        (r : List Doing) → Round h r → (n : Net) → Throughout h C n → (i : ℕ) → i < h.count → W i ((ran h r n).lamp i)
    lamps_after W works r round n all i there =
        let now = λ (m : Net) (a : Throughout h C m). works i (m.heard i) there (λ j wired. a.memories i j (there, wired)) in
        made_in h (Throughout h C) (λ m. W i (m.lamp i)) kept_once
        (λ d fit m a old. lamp_did h s (W i) d fit m i (λ _. now m a) old)
        (Work i) (λ m a. subst (W i) (sym (work_lamp h s m i)) (now m a))
        r round.fits (round.whole (Work i) there) n all

    module _ (D : ℕ → ℕ → Telling → Type 0) (next : LeadsTo h C D) where
      put_once :
          (j i : ℕ) → Fits h (Hear j i) → (d : Doing) → Fits h d → (n : Net) → Throughout h C n → Tells (D i j) (n.line i j) →
          Tells (D i j) ((did h d n).line i j)
      put_once j i f d fit n all old =
          line_did h s (Tells (D i j)) d fit n j i (λ _. (told_from h i (n.heard i) j, refl, tells_next C D next n all j i f)) old

      -- after a round every wire can be read, and has what lamps tell from then on
      pub put : (r : List Doing) → Round h r → (n : Net) → Throughout h C n → Put h D (ran h r n)
      put r round n all j i f =
          made_in h (Throughout h C) (λ m. Tells (D i j) (m.line i j)) kept_once (put_once j i f)
          (Work i) (λ m a. (told_from h i (m.heard i) j, work_line h s m i j (s.both j i f), tells_next C D next m a j i f))
          r round.fits (round.whole (Work i) (s.within j i f)) n all

      put_kept : (d : Doing) → Fits h d → (n : Net) → Throughout h C n × Put h D n → Throughout h C (did h d n) × Put h D (did h d n)
      put_kept d fit n p = (kept_once d fit n p.0, λ j i f. put_once j i f d fit n p.0 (p.1 j i f))

      -- and after one more every memory has it
      heeded : (r : List Doing) → Round h r → (n : Net) → Throughout h C n → Put h D n → Throughout h D (ran h r n)
      heeded r round n all there =
          let Ready = λ (m : Net). Throughout h C m × Put h D m in
          record {
            memories = λ j i f.
                made_in h Ready (λ m. D i j (m.heard j i)) put_kept
                (λ d fit m p old. heard_did h s (D i j) d fit m j i (λ _. tells_only (D i j) (m.line i j) (p.1 j i f)) old)
                (Hear j i) (λ m p. let q = p.1 j i f in subst (D i j) (sym (hear_heard h s m j i q.0 q.1)) q.2)
                r round.fits (round.whole (Hear j i) f) n (all, there);
            wires = λ j i f. tells_only (D i j) ((ran h r n).line i j) ((keeps h Ready put_kept r round.fits n (all, there)).1 j i f);
          }

  module _ (C D : ℕ → ℕ → Telling → Type 0) (asks : (i j : ℕ) (t : Telling) → D i j t → C i j t) (leads : LeadsTo h C D) where
    -- two rounds lead from a claim to the next
    pub rung : (r₁ r₂ : List Doing) → Round h r₁ → Round h r₂ → (n : Net) → Throughout h C n → Throughout h D (ran h r₂ (ran h r₁ n))
    rung r₁ r₂ one two n all =
        let stays : LeadsTo h C C = λ i heard there told j wired. asks i j _ (leads i heard there told j wired) in
        heeded C stays D leads r₂ two (ran h r₁ n) (kept C stays r₁ one.fits n all) (put C stays D leads r₁ one n all)

    rung_rounds : (n : Net) (rs : List (List Doing)) → Rounds h 2 rs → Throughout h C n → Throughout h D (ran h (flat rs) n)
    unfolding Rounds flat
    rung_rounds n [] all start = absurd all
    rung_rounds n (r₁ ∷ []) all start = absurd all.1
    rung_rounds n (r₁ ∷ r₂ ∷ []) all start =
        subst (Throughout h D) (sym (ran_append h r₁ (r₂ ++ []) n ∙ ap (λ ds. ran h ds (ran h r₁ n)) (append-nil r₂)))
        (rung r₁ r₂ all.0 all.1.0 n start)
    rung_rounds n (r₁ ∷ r₂ ∷ r₃ ∷ rs) all start = absurd all.1.1

  -- and so on up
  pub climb :
      (C : ℕ → ℕ → ℕ → Telling → Type 0) → ((k i j : ℕ) (t : Telling) → C (suc k) i j t → C k i j t) → ((k : ℕ) → LeadsTo h (C k) (C (suc k))) →
      (k : ℕ) (n : Net) (rs : List (List Doing)) → Rounds h (2 * k) rs → Throughout h (C 0) n → Throughout h (C k) (ran h (flat rs) n)
  climb C asks leads zero n rs all start = after_none h (Throughout h (C 0)) n rs all start
  climb C asks leads (suc k) n rs all start =
      let e : 2 * suc k ≡ 2 * k + 2 = omega arith in
      after_both h (Throughout h (C 0)) (Throughout h (C k)) (Throughout h (C (suc k))) (2 * k) 2
      (climb C asks leads k) (rung_rounds (C k) (C (suc k)) (asks k) (leads k)) n rs (subst (λ m. Rounds h m rs) e all) start

pub ladder : Ladder
ladder h s test asks leads = climb h s (λ k. Passing (test k)) asks leads
