use Rattle.std.proofs.Common.{get_or}
use Rattle.model.specs.declared.Doing.TheVariants.{Work}
use Rattle.network.specs.Parts.{Lamps}
use Rattle.network.proofs.Fillings.{lamp_drawn, no_lamp_drawn, drawn_more}
use Rattle.network.proofs.Numbers.{numbers_of_drawn}
use Rattle.network.proofs.lent.Lent.fill_lamps.Goals as goal
use Rattle.network.proofs.lent.Lent.fill_lamps.Goals.{in-Work, in_default}

pub loop-doing-preserved : goal.loop-doing-preserved
loop-doing-preserved c =
    let l = c.loop-doing.self in
    let s = c.loop-doing.draws.state in
    let d = get_or c.args.doings.now c.loop-doing.doing-index (Work 0) in
    drawn_more c.args.self.now l c.match-doing.self c.args.draws.now.state s c.match-doing.draws.state Lamps c.args.doings.now c.loop-doing.doing-index (Work 0) c.loop-doing-test.true
    c.loop-doing.invariant
    (elim c.match-doing.branch [
      | in-Work w ↦
          rw (w.self-is, w.draws-is)
          (lamp_drawn l w.note.new.self s w.numbers.new.self.state d w.in-Work.place w.from.result w.in-Work.is (numbers_of_drawn s w.numbers.result w.from.result w.numbers.ensures.value w.from.ensures) w.numbers.ensures.next w.note.ensures)
      | in_default w ↦ rw (w.self-is, w.draws-is) (no_lamp_drawn l s d w.in_default.field-0 w.in_default.field-1 w.in_default.is)
    ])
