use Rattle.std.proofs.Common.{string_bytes}
use Rattle.text.proofs.Bytes.{write_more, write_end}
use Rattle.text.proofs.hex_of.Goals as goal

pub loop-b-preserved : goal.loop-b-preserved
loop-b-preserved c =
    let high = c.hex_digit.ensures in
    let low = c.hex_digit-in-loop-b.ensures in
    write_more (string_bytes c.loop-b.text) c.args.bytes.now c.loop-b.b-index c.loop-b-test.true c.loop-b.invariant
    high.value (c.push.ensures.ascii high.ascii) c.in_ok-push.ensures.bytes
    low.value (c.push-in-loop-b.ensures.ascii low.ascii) c.in_ok-push-2.ensures.bytes

pub returns : goal.returns
returns c = write_end _ c.args.bytes.now c.loop-b.b-index c.loop-b-test.false c.loop-b.invariant
