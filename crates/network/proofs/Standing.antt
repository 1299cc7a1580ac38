-- The net that words stand for.
use Rattle.std.proofs.Common.{◌≡◌, ℕ, zero, suc, ◌<◌, cond, eqb, List, [], ◌∷◌, length, get_or, sym, refl, ap, ◌∙◌, arith}
use Rattle.std.proofs.lemmas.Bool.{eq-eqb, ne_eqb, cond-true, cond-false}
use Rattle.topology.specs.Reading.{hall_of}
use Rattle.network.specs.Words.{telling_in, numbers_in, reading_in}
use Rattle.network.specs.Slots.{neighbour, slot_of}
use Rattle.network.specs.Laws.{WordsStand}
use Rattle.network.proofs.Tables.{one_wire}

-- where a place stands first in a list
abbrev index_of : ℕ → List ℕ → ℕ
index_of i [] = zero
index_of i (p ∷ ps) = cond (eqb p i) zero (suc (index_of i ps))

-- in a list of different places, where each stands
index_at : (ps : List ℕ) (k : ℕ) → ((a b : ℕ) → a < length ps → b < length ps → get_or ps a 0 ≡ get_or ps b 0 → a ≡ b) → k < length ps → index_of (get_or ps k 0) ps ≡ k
index_at [] k apart l = absurd (omega arith)
index_at (p ∷ ps) zero apart l = cond-true _ _ _ (eq-eqb p p refl)
index_at (p ∷ ps) (suc k) apart l =
    cond-false _ _ _ (ne_eqb p (get_or ps k 0) (λ e. omega (arith, apart zero (suc k) (omega arith) l e)))
    ∙ ap suc (index_at ps k (λ a b m n e. omega (arith, apart (suc a) (suc b) (omega arith) (omega arith) e)) (omega arith))

pub words_stand : WordsStand
words_stand t s =
    let slot : ℕ → ℕ → ℕ = λ j i. slot_of j (index_of i ((hall_of t).neighbours j)) in
    let at : (j k : ℕ) → j < (hall_of t).count → k < length ((hall_of t).neighbours j) → slot_of j k ≡ slot j (neighbour (hall_of t) j k) =
    λ j k l m. ap (slot_of j) (sym (index_at ((hall_of t).neighbours j) k (one_wire t j l) m)) in (
      record {
        lamp = numbers_in s.lamps.now;
        line = λ i j. reading_in s.wires.now s.noise.now (slot j i);
        heard = λ j i. telling_in s.memories.now (slot j i);
      },
      record {
        lamps = λ i l. refl;
        wires = λ j k l m. ap (reading_in s.wires.now s.noise.now) (at j k l m);
        memories = λ j k l m. ap (telling_in s.memories.now) (at j k l m);
      },
    )
