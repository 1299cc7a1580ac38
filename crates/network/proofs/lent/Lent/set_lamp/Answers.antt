use Rattle.std.proofs.Common.{sym, ap, ◌∙◌}
use borrow.Author.Tests.{ltb-true}
use Rattle.topology.specs.Reading.{hall_of}
use Rattle.model.specs.Nets.{noted}
use Rattle.network.specs.Effects.{with_number}
use Rattle.network.specs.Turns.{state_in}
use Rattle.network.proofs.Changes.{become_as}
use Rattle.network.proofs.Numbers.{numbers_set}
use Rattle.network.proofs.lent.Lent.set_lamp.Goals as goal

pub returns-then-hangs : goal.returns-then-hangs
returns-then-hangs c =
    let l = c.args.self.now in
    record {
      lent = c.note.ensures.lent;
      becomes =
          become_as (hall_of l.hall.now) (state_in l) (noted c.args.place) (λ n. with_number c.args.field c.args.n (n.lamp c.args.place)) (state_in c.note.new.self) _
          (λ n stands. numbers_set c.args.field c.args.n c.numbers-numbers.result c.from.result c.into.result c.set_in.result c.into.ensures c.set_in.ensures c.from.ensures ∙ ap (with_number c.args.field c.args.n) (c.numbers-numbers.ensures ∙ stands.lamps c.args.place (ltb-true _ _ (sym c.hangs.ensures ∙ c.if-hangs.true))))
          c.note.ensures.becomes;
    }
