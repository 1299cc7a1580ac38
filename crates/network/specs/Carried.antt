-- What carrying out one command comes to, in words that are lent for it.
use Rattle.std.specs.Prelude.{◌≡◌, ℕ, ◌*◌, Bool, true, cond, ◌&&◌, length, Some, None, Err, vec_items, Option, Result, OnErr, ◌==◌, nat_lt}
use Rattle.telling.specs.declared.refusal.Refusal.{Refusal}
use Rattle.telling.specs.declared.refusal.Refusal.TheVariants.{Memory}
use Rattle.protocol.specs.declared.state.Numbers.{Numbers}
use Rattle.model.specs.Halls.{Hall}
use Rattle.topology.specs.declared.hall.Topology.{Topology}
use Rattle.topology.specs.Reading.{hall_of}
use Rattle.network.specs.declared.commands.Command.{Command}
use Rattle.network.specs.declared.state.State.{State}
use Rattle.network.specs.Words.{numbers_in}
use Rattle.network.specs.Stands.{Becomes}
use Rattle.network.specs.Effects.{refusal_of, carried_out}

-- are the words just as many as a hall wants
abbrev pub is_roomy : Hall → State → Bool
is_roomy h s =
    (length s.memories.now == 112 * h.count) &&
    (length s.wires.now == 112 * h.count) &&
    (length s.noise.now == 16 * h.count) &&
    (length s.lamps.now == 6 * h.count)

-- how a command is refused: by 3 where the words are too few or too many
abbrev pub refused_as : Hall → State → Command → Result (Unit {0}) Refusal
refused_as h s c = cond (is_roomy h s) (refusal_of h c) (Err Memory)

-- one command was carried out: whatever net the words stood for, they now stand for that net after the command; what was refused has changed nothing at all
pub record Carried (t : Topology) (before after : State) (c : Command) (answer : Result (Unit {0}) Refusal) : Type 0 where
  pub refused : answer ≡ refused_as (hall_of t) before c
  pub same : OnErr answer (after ≡ before)
  pub becomes : is_roomy (hall_of t) before ≡ true → Becomes (hall_of t) before after (λ n. carried_out (hall_of t) (vec_items t.sites) n c)

-- the numbers of the lamp at a place, where there is one and the words are as many as the hall wants
abbrev pub numbers_at : Topology → State → ℕ → Option Numbers
numbers_at t s i = cond (is_roomy (hall_of t) s && nat_lt i (hall_of t).count) (Some (numbers_in s.lamps.now i)) None
