use Rattle.std.proofs.Common.{ap, ◌∙◌, rules}
use Rattle.telling.specs.declared.frame.Reading.TheVariants.{Told}
use Rattle.topology.specs.Reading.{hall_of}
use Rattle.model.specs.Nets.{laid}
use Rattle.network.specs.Effects.{with_field, or_zeros}
use Rattle.network.specs.Turns.{state_in}
use Rattle.network.proofs.Changes.{become_as, same_as, same_wires, line_at}
use Rattle.network.proofs.Numbers.{telling_set, told_or_zeros}
use Rattle.std.specs.Result.{result_unwrap_or}
use Rattle.protocol.specs.Rules.{nothing}
use Rattle.network.proofs.lent.Lent.set_wire.Goals as goal

pub returns-in-Some : goal.returns-in-Some
returns-in-Some c =
    let l = c.args.self.now in
    record {
      lent = c.lay.ensures.lent;
      becomes =
          become_as (hall_of l.hall.now) (state_in l) (laid c.args.from c.args.to) (λ n. Told (with_field c.args.field c.args.n (or_zeros (n.line c.args.from c.args.to)))) (state_in c.lay.new.self) _
          (λ n stands.
          ap Told (telling_set c.args.field c.args.n c.unwrap_or-said.result c.from-said.result c.into.result c.set_in.result c.into.ensures c.set_in.ensures c.from-said.ensures ∙ ap (with_field c.args.field c.args.n)
          (c.unwrap_or-said.ensures ∙ ap (λ r. result_unwrap_or r nothing) c.told.ensures ∙ told_or_zeros c.reading.result ∙ ap or_zeros (c.reading.ensures ∙ line_at l.hall.now (state_in l) l.roomy n stands c.args.to c.args.from c.in-Some.slot c.in-Some.ensures.found))))
          c.lay.ensures.becomes;
    }

pub returns-in_default : goal.returns-in_default
returns-in_default c =
    let l = c.args.self.now in
    record {
      lent = search rules;
      becomes =
          same_as (hall_of l.hall.now) (state_in l) (laid c.args.from c.args.to) (λ n. Told (with_field c.args.field c.args.n (or_zeros (n.line c.args.from c.args.to)))) l.roomy
          (λ reading. same_wires l.hall.now (state_in l) l.roomy c.args.from c.args.to reading c.in_default.ensures.found);
    }
