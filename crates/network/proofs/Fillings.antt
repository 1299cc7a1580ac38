-- Drawing numbers into a hall's lent words.
use Rattle.std.proofs.Common.{◌≡◌, ℕ, ◌+◌, ◌<◌, List, length, get_or, take, sym, ap, ◌∙◌, subst}
use Rattle.std.proofs.lemmas.List.Sums.{fold_more}
use Rattle.telling.specs.declared.Telling.{Telling}
use Rattle.telling.specs.declared.frame.Reading.TheVariants.{Told}
use Rattle.protocol.specs.declared.state.Numbers.{Numbers}
use Rattle.model.specs.declared.Doing.{Doing}
use Rattle.model.specs.declared.Doing.TheVariants.{Work, Hear}
use Rattle.model.specs.Nets.{Net, remembering, laid, noted}
use Rattle.topology.specs.Reading.{hall_of}
use Rattle.network.specs.declared.lent.Lent.{Lent}
use Rattle.network.specs.Parts.{Part, Memories, Wires, Lamps}
use Rattle.network.specs.Sequence.{after, telling_from, numbers_from}
use Rattle.network.specs.Stands.{Stands, BecomesDrawn}
use Rattle.network.specs.Effects.{drawn, filled}
use Rattle.network.specs.Turns.{state_in, Turns, TurnsDrawn}
use Rattle.network.proofs.Turning.{stays, stays_then}

module _ (a b : Lent) (s s' : ℕ) (d : Doing) where
  pub memory_drawn :
      (j i : ℕ) (said : Telling) → d ≡ Hear j i → said ≡ telling_from s → s' ≡ after 7 s → Turns a b (remembering j i said) → TurnsDrawn a b s s' (λ sn. drawn Memories sn d)
  unfolding drawn
  memory_drawn j i said is e f done =
      rw is
      (record {
        lent = done.lent;
        drawn = record { room = done.becomes.room; drawn = λ n stands. (f, subst (λ t. Stands (hall_of a.hall.now) (state_in b) (remembering j i t n)) e (done.becomes.stands n stands)) };
      })

  pub wire_drawn :
      (i j : ℕ) (said : Telling) → d ≡ Hear i j → said ≡ telling_from s → s' ≡ after 7 s → Turns a b (laid i j (Told said)) → TurnsDrawn a b s s' (λ sn. drawn Wires sn d)
  unfolding drawn
  wire_drawn i j said is e f done =
      rw is
      (record {
        lent = done.lent;
        drawn = record { room = done.becomes.room; drawn = λ n stands. (f, subst (λ t. Stands (hall_of a.hall.now) (state_in b) (laid i j (Told t) n)) e (done.becomes.stands n stands)) };
      })

  pub lamp_drawn :
      (i : ℕ) (w : Numbers) → d ≡ Work i → w ≡ numbers_from s → s' ≡ after 6 s → Turns a b (noted i w) → TurnsDrawn a b s s' (λ sn. drawn Lamps sn d)
  unfolding drawn
  lamp_drawn i w is e f done =
      rw is
      (record {
        lent = done.lent;
        drawn = record { room = done.becomes.room; drawn = λ n stands. (f, subst (λ t. Stands (hall_of a.hall.now) (state_in b) (noted i t n)) e (done.becomes.stands n stands)) };
      })

-- a part that has nothing for a doing
module _ (a : Lent) (s : ℕ) (d : Doing) where
  abbrev untouched : Part → Type 0
  untouched part = (n : Net) → drawn part (s, n) d ≡ (s, n)

  as_it_was : (part : Part) → untouched part → TurnsDrawn a a s s (λ sn. drawn part sn d)
  as_it_was part same =
      record {
        lent = stays a;
        drawn = record {
          room = a.roomy;
          drawn = λ n stands. (sym (ap (λ sn. sn.0) (same n)), subst (λ sn. Stands (hall_of a.hall.now) (state_in a) sn.1) (sym (same n)) stands);
        };
      }

  pub no_lamp_drawn : (j i : ℕ) → d ≡ Hear j i → TurnsDrawn a a s s (λ sn. drawn Lamps sn d)
  unfolding drawn
  no_lamp_drawn j i is = as_it_was Lamps (λ n. ap (drawn Lamps (s, n)) is)

  pub no_memory_drawn : (i : ℕ) → d ≡ Work i → TurnsDrawn a a s s (λ sn. drawn Memories sn d)
  unfolding drawn
  no_memory_drawn i is = as_it_was Memories (λ n. ap (drawn Memories (s, n)) is)

  pub no_wire_drawn : (i : ℕ) → d ≡ Work i → TurnsDrawn a a s s (λ sn. drawn Wires sn d)
  unfolding drawn
  no_wire_drawn i is = as_it_was Wires (λ n. ap (drawn Wires (s, n)) is)

-- one after the other
pub drawn_then :
    (a b c : Lent) (s s' s'' : ℕ) (f g : ℕ × Net → ℕ × Net) → TurnsDrawn a b s s' f → TurnsDrawn b c s' s'' g → TurnsDrawn a c s s'' (λ sn. g (f sn))
drawn_then a b c s s' s'' f g first then =
    let as_was = ap (λ h. hall_of h.now) first.lent.hall in
    let last = subst (λ h. BecomesDrawn h (state_in b) (state_in c) s' s'' g) as_was then.drawn in
    record {
      lent = stays_then a b first.lent c then.lent;
      drawn = record {
        room = last.room;
        drawn = λ n stands.
            let one = first.drawn.drawn n stands in
            let two = last.drawn (f (s, n)).1 one.1 in
            let same : (s', (f (s, n)).1) ≡ f (s, n) = ap (λ x. (x, (f (s, n)).1)) one.0 in
            (two.0 ∙ ap (λ sn. (g sn).0) same, subst (λ sn. Stands (hall_of a.hall.now) (state_in c) (g sn).1) same two.1);
      };
    }

pub drawn_more :
    (a b c : Lent) (s s' s'' : ℕ) (part : Part) (ds : List Doing) (k : ℕ) (d : Doing) → k < length ds → TurnsDrawn a b s s' (filled part (take k ds)) →
    TurnsDrawn b c s' s'' (λ sn. drawn part sn (get_or ds k d)) → TurnsDrawn a c s s'' (filled part (take (k + 1) ds))
drawn_more a b c s s' s'' part ds k d l first then =
    let done = drawn_then a b c s s' s'' (filled part (take k ds)) (λ sn. drawn part sn (get_or ds k d)) first then in
    record {
      lent = done.lent;
      drawn = record {
        room = done.drawn.room;
        drawn = λ n stands.
            let both = done.drawn.drawn n stands in
            let same = sym (fold_more (drawn part) (s, n) ds k d l) in
            (both.0 ∙ ap (λ sn. sn.0) same, subst (λ sn. Stands (hall_of a.hall.now) (state_in c) sn.1) same both.1);
      };
    }
