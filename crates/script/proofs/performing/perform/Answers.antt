use Rattle.std.proofs.Common.{vec_items, subst}
use Rattle.std.proofs.lemmas.List.{take_all}
use Rattle.topology.specs.Reading.{hall_of}
use Rattle.network.specs.Stands.{Becomes}
use Rattle.network.specs.Effects.{performed}
use Rattle.script.proofs.Shown.{roomy_from, roomy_so, performed_more}
use Rattle.script.proofs.performing.perform.Goals as goal

pub loop-k-init : goal.loop-k-init
loop-k-init c = λ roomy. record { room = roomy_from (hall_of c.args.hall.now) c.args.state.now roomy; stands = λ n stands. stands }

pub loop-k-preserved : goal.loop-k-preserved
loop-k-preserved c = λ roomy.
    let t = c.args.hall.now in
    let before = c.loop-k.invariant roomy in
    performed_more t c.args.state.now c.loop-k.state c.carry_out.new.self c.args.script.now c.loop-k.k _ c.loop-k-test.true before
    (c.in_ok-answer.ensures.becomes (roomy_so (hall_of t) c.loop-k.state before.room))

pub returns : goal.returns
returns c = λ roomy.
    let t = c.args.hall.now in
    subst (λ script. Becomes (hall_of t) c.args.state.now c.loop-k.state (performed (hall_of t) (vec_items t.sites) script))
    (take_all c.loop-k.k c.args.script.now c.loop-k-test.false) (c.loop-k.invariant roomy)
