-- Changes of a hall's lent words, one after the other.
use Rattle.std.proofs.Common.{ℕ, ◌+◌, ◌<◌, List, [], length, get_or, take, sym, refl, ◌∙◌, ap, subst}
use Rattle.model.specs.declared.Doing.{Doing}
use Rattle.model.specs.Nets.{Net, did, ran}
use Rattle.topology.specs.Reading.{hall_of}
use Rattle.network.specs.declared.lent.Lent.{Lent}
use Rattle.network.specs.declared.state.State.{State}
use Rattle.network.specs.Stands.{Stands, Becomes}
use Rattle.network.specs.Turns.{state_in, StaysLent, Turns}
use Rattle.network.proofs.Lists.{ran_none, ran_more}

module _ (a b : Lent) (same : StaysLent a b) where
  -- what is said of the hall as it is now is said of it as it was
  pub becomes_as_was : (s s' : State) (change : Net → Net) → Becomes (hall_of b.hall.now) s s' change → Becomes (hall_of a.hall.now) s s' change
  becomes_as_was s s' change becomes = subst (λ h. Becomes h s s' change) (ap (λ h. hall_of h.now) same.hall) becomes

  pub stays_then : (c : Lent) → StaysLent b c → StaysLent a c
  stays_then c then =
      record {
        hall = then.hall ∙ same.hall;
        memories = then.memories ∙ same.memories;
        wires = then.wires ∙ same.wires;
        noise = then.noise ∙ same.noise;
        lamps = then.lamps ∙ same.lamps;
      }

pub stays : (a : Lent) → StaysLent a a
stays a = record { hall = refl; memories = refl; wires = refl; noise = refl; lamps = refl }

pub turns_then : (a b c : Lent) (f g : Net → Net) → Turns a b f → Turns b c g → Turns a c (λ n. g (f n))
turns_then a b c f g first then =
    let last = becomes_as_was a b first.lent (state_in b) (state_in c) g then.becomes in
    record {
      lent = stays_then a b first.lent c then.lent;
      becomes = record { room = last.room; stands = λ n stands. last.stands (f n) (first.becomes.stands n stands) };
    }

-- the doings of a list so far, and one more
pub ran_none_turns : (a : Lent) → Turns a a (ran (hall_of a.hall.now) [])
ran_none_turns a =
    record {
      lent = stays a;
      becomes = record { room = a.roomy; stands = λ n stands. subst (Stands (hall_of a.hall.now) (state_in a)) (sym (ran_none (hall_of a.hall.now) n)) stands };
    }

pub ran_more_turns :
    (a b c : Lent) (ds : List Doing) (k : ℕ) (d : Doing) → k < length ds → Turns a b (ran (hall_of a.hall.now) (take k ds)) →
    Turns b c (did (hall_of b.hall.now) (get_or ds k d)) → Turns a c (ran (hall_of a.hall.now) (take (k + 1) ds))
ran_more_turns a b c ds k d l first then =
    let same = ap (λ t. hall_of t.now) first.lent.hall in
    let step = subst (λ h. Turns b c (did h (get_or ds k d))) same then in
    let both = turns_then a b c (ran (hall_of a.hall.now) (take k ds)) (did (hall_of a.hall.now) (get_or ds k d)) first step in
    record {
      lent = both.lent;
      becomes = record {
        room = both.becomes.room;
        stands = λ n stands. subst (Stands (hall_of a.hall.now) (state_in c)) (ran_more (hall_of a.hall.now) ds n k d l) (both.becomes.stands n stands);
      };
    }
