-- Texts that are pieced together, and scripts command by command.
use Rattle.std.proofs.Common.{◌≡◌, ℕ, ◌+◌, ◌<◌, true, List, [], ◌++◌, length, get_or, take, vec_items, sym, ap, ◌∙◌, subst}
use Rattle.std.specs.List.{flat_map}
use Rattle.std.proofs.lemmas.List.{take_more, flat_map_more}
use Rattle.std.proofs.lemmas.List.Sums.{fold_more}
use Rattle.std.proofs.lemmas.Bool.{and_parts, and_from, eq-eqb, eqb-true}
use Rattle.model.specs.Halls.{Hall}
use Rattle.topology.specs.declared.hall.Topology.{Topology}
use Rattle.topology.specs.Reading.{hall_of}
use Rattle.network.specs.declared.commands.Command.{Command}
use Rattle.network.specs.declared.state.State.{State}
use Rattle.network.specs.Stands.{Roomy, Stands, Becomes}
use Rattle.network.specs.Carried.{is_roomy}
use Rattle.network.specs.Effects.{carried_out, performed}

-- one piece more
pub joined_one :
    {X Y : Type 0} (f : X → List Y) (xs : List X) (i : ℕ) (d : X) {a b : List Y} → i < length xs → a ≡ flat_map f (take i xs) → b ≡ a ++ f (get_or xs i d) → b ≡ flat_map f (take (i + 1) xs)
joined_one f xs i d l e g =
    g ∙ ap (λ ys. ys ++ f (get_or xs i d)) e ∙ flat_map_more f [] (take i xs) (get_or xs i d) ∙ ap (flat_map f) (sym (take_more xs i d l))

-- the test of the words' room says what it should
pub roomy_from : (h : Hall) (s : State) → is_roomy h s ≡ true → Roomy h s
roomy_from h s e =
    let three = and_parts _ _ e in
    let two = and_parts _ _ three.0 in
    let one = and_parts _ _ two.0 in
    record { memories = eqb-true _ _ one.0; wires = eqb-true _ _ one.1; noise = eqb-true _ _ two.1; lamps = eqb-true _ _ three.1 }

pub roomy_so : (h : Hall) (s : State) → Roomy h s → is_roomy h s ≡ true
roomy_so h s room =
    and_from _ _ (and_from _ _ (and_from _ _ (eq-eqb _ _ room.memories) (eq-eqb _ _ room.wires)) (eq-eqb _ _ room.noise)) (eq-eqb _ _ room.lamps)

-- one command more
pub performed_more :
    (t : Topology) (a b c : State) (script : List Command) (k : ℕ) (d : Command) → k < length script →
    Becomes (hall_of t) a b (performed (hall_of t) (vec_items t.sites) (take k script)) →
    Becomes (hall_of t) b c (λ n. carried_out (hall_of t) (vec_items t.sites) n (get_or script k d)) →
    Becomes (hall_of t) a c (performed (hall_of t) (vec_items t.sites) (take (k + 1) script))
performed_more t a b c script k d l before step =
    record {
      room = step.room;
      stands = λ n stands.
          subst (Stands (hall_of t) c) (sym (fold_more (carried_out (hall_of t) (vec_items t.sites)) n script k d l)) (step.stands _ (before.stands n stands));
    }
