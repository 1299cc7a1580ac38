use Rattle.std.proofs.Common.{◌<◌, length, refl, ◌∙◌, arith, length-set}
use Rattle.std.proofs.lemmas.List.{length-replicate}
use Rattle.network.proofs.Numbers.{drawn_none, drawn_more, after_more}
use Rattle.network.proofs.draws.Draws.numbers.Goals as goal

pub loop-number-init : goal.loop-number-init
loop-number-init g c = (drawn_none c.args.self.now.state, refl, length-replicate _ _)

pub loop-number-preserved : goal.loop-number-preserved
loop-number-preserved g c =
    let k = c.loop-number.number-index in
    let s = c.args.self.now.state in
    let inside : k < length c.loop-number.number-items = omega (arith, c.loop-number-test.true, c.loop-number.invariant.2) in
    let drawn = c.number-drawn.ensures in (
      drawn_more s c.loop-number.self.state c.number-drawn.result c.loop-number.number-items k inside c.loop-number.invariant.0 c.loop-number.invariant.1 drawn.value,
      after_more s c.loop-number.self.state c.number-drawn.new.self.state k c.loop-number.invariant.1 drawn.next,
      length-set c.loop-number.number-items k _ ∙ c.loop-number.invariant.2,
    )
