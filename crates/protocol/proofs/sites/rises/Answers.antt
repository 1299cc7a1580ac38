use Rattle.std.proofs.Common.{sym, ◌∙◌}
use Rattle.protocol.proofs.Rising.{rises_more, rises_stop, rises_all}
use Rattle.protocol.proofs.sites.rises.Goals as goal

pub returns-then-not-may_wire : goal.returns-then-not-may_wire
returns-then-not-may_wire c =
    sym (rises_stop c.args.own c.loop-place.low c.args.places.now c.loop-place.place-index _ c.loop-place-test.true
    c.loop-place.invariant (sym c.may_wire.ensures ∙ c.if-not-may_wire.true))

pub loop-place-preserved : goal.loop-place-preserved
loop-place-preserved c =
    rises_more c.args.own c.loop-place.low c.args.places.now c.loop-place.place-index _ c.loop-place-test.true
    c.loop-place.invariant (sym c.may_wire.ensures ∙ c.if-not-may_wire.false)

pub returns : goal.returns
returns c =
    sym (c.loop-place.invariant ∙ rises_all c.args.own c.loop-place.low c.args.places.now c.loop-place.place-index c.loop-place-test.false)
