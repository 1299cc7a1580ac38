-- A command that is not refused, carried out in words that are lent on.
use Rattle.std.proofs.Common.{◌≡◌, true, Ok, Err, Result, is_ok, length, vec_items, sym, ap, ◌∙◌, subst}
use Rattle.std.proofs.lemmas.Bool.{cond-true}
use Rattle.telling.specs.declared.refusal.Refusal.{Refusal}
use Rattle.model.specs.Halls.{Hall}
use Rattle.model.specs.Nets.{Net}
use Rattle.topology.specs.declared.hall.Topology.{Topology}
use Rattle.topology.specs.Reading.{hall_of}
use Rattle.network.specs.declared.commands.Command.{Command}
use Rattle.network.specs.declared.state.State.{State}
use Rattle.network.specs.Stands.{Roomy, Stands, Becomes, LampsStand, WiresStand, MemoriesStand}
use Rattle.network.specs.Effects.{refusal_of, effect_of, unless_refused}
use Rattle.network.specs.Carried.{is_roomy, Carried}

-- the same numbers stand in both
pub record Alike (a b : State) : Type 0 where
  pub memories : a.memories.now ≡ b.memories.now
  pub wires : a.wires.now ≡ b.wires.now
  pub noise : a.noise.now ≡ b.noise.now
  pub lamps : a.lamps.now ≡ b.lamps.now

module _ (h : Hall) (a b : State) (same : Alike a b) where
  roomy_alike : Roomy h a → Roomy h b
  roomy_alike room =
      record {
        memories = ap length (sym same.memories) ∙ room.memories;
        wires = ap length (sym same.wires) ∙ room.wires;
        noise = ap length (sym same.noise) ∙ room.noise;
        lamps = ap length (sym same.lamps) ∙ room.lamps;
      }

  stands_alike : (n : Net) → Stands h a n → Stands h b n
  stands_alike n stands =
      record {
        lamps = subst (λ xs. LampsStand h xs n.lamp) same.lamps stands.lamps;
        wires = subst (λ xs. WiresStand h xs b.noise.now n.line) same.wires (subst (λ xs. WiresStand h a.wires.now xs n.line) same.noise stands.wires);
        memories = subst (λ xs. MemoriesStand h xs n.heard) same.memories stands.memories;
      }

-- s is lent on as a, and what was made of that is given back
module _ (t : Topology) (s a b s' : State) (lent : Alike s a) (back : Alike b s') where
  become_alike : (change : Net → Net) → Becomes (hall_of t) a b change → Becomes (hall_of t) s s' change
  become_alike change becomes =
      record {
        room = roomy_alike (hall_of t) b s' back becomes.room;
        stands = λ n stands. stands_alike (hall_of t) b s' back (change n) (becomes.stands n (stands_alike (hall_of t) s a lent n stands));
      }

  pub carried :
      (c : Command) (answer : Result (Unit {0}) Refusal) → is_roomy (hall_of t) s ≡ true → answer ≡ refusal_of (hall_of t) c → is_ok answer ≡ true →
      Becomes (hall_of t) a b (effect_of (hall_of t) (vec_items t.sites) c) → Carried t s s' c answer
  carried c (Ok done) roomy fine ok becomes =
      let done = become_alike (effect_of (hall_of t) (vec_items t.sites) c) becomes in
      record {
        refused = fine ∙ sym (cond-true _ _ _ roomy);
        same = tt;
        becomes = λ _.
            record {
              room = done.room;
              stands = λ n stands.
                  subst (λ r. Stands (hall_of t) s' (unless_refused r n (effect_of (hall_of t) (vec_items t.sites) c n))) fine (done.stands n stands);
            };
      }
  carried c (Err refusal) roomy fine ok becomes = absurd cc
