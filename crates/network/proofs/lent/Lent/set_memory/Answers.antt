use Rattle.std.proofs.Common.{ap, ◌∙◌, rules}
use Rattle.topology.specs.Reading.{hall_of}
use Rattle.model.specs.Nets.{remembering}
use Rattle.network.specs.Effects.{with_field}
use Rattle.network.specs.Turns.{state_in}
use Rattle.network.proofs.Changes.{become_as, same_as, same_memories, heard_at}
use Rattle.network.proofs.Numbers.{telling_set}
use Rattle.network.proofs.lent.Lent.set_memory.Goals as goal

pub returns-in-Some : goal.returns-in-Some
returns-in-Some c =
    let l = c.args.self.now in
    record {
      lent = c.remember.ensures.lent;
      becomes =
          become_as (hall_of l.hall.now) (state_in l) (remembering c.args.by c.args.of) (λ n. with_field c.args.field c.args.n (n.heard c.args.by c.args.of)) (state_in c.remember.new.self) _
          (λ n stands.
          telling_set c.args.field c.args.n c.memory-said.result c.from.result c.into.result c.set_in.result c.into.ensures c.set_in.ensures c.from.ensures ∙ ap (with_field c.args.field c.args.n) (c.memory-said.ensures ∙ heard_at l.hall.now (state_in l) l.roomy n stands c.args.by c.args.of c.in-Some.slot c.in-Some.ensures.found))
          c.remember.ensures.becomes;
    }

pub returns-in_default : goal.returns-in_default
returns-in_default c =
    let l = c.args.self.now in
    record {
      lent = search rules;
      becomes =
          same_as (hall_of l.hall.now) (state_in l) (remembering c.args.by c.args.of) (λ n. with_field c.args.field c.args.n (n.heard c.args.by c.args.of)) l.roomy
          (λ said. same_memories l.hall.now (state_in l) l.roomy c.args.by c.args.of said c.in_default.ensures.found);
    }
