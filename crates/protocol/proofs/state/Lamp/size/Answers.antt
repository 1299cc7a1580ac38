use Rattle.std.proofs.Common.{◌≡◌, ◌<◌, length, ap, ◌∙◌, arith, rules}
use Rattle.protocol.specs.Rules.{size_of, child_size}
use Rattle.protocol.proofs.Rows.{whole_row, sizes_more, length-tellings, telling_kth}
use Rattle.protocol.proofs.state.Lamp.size.Goals as goal

pub loop-said-preserved : goal.loop-said-preserved
loop-said-preserved c =
    let lamp = c.args.self.now in
    let heard : length lamp.heard ≡ 16 = search rules in
    let k = c.loop-said.said-index in
    let long = length-tellings lamp heard c.heard-said-items.ensures in
    let inside : k < lamp.site.wires = omega (arith, c.loop-said-test.true, long) in
    let said = ap (child_size lamp.site.own.place c.args.best) (telling_kth lamp heard k c.heard-said-items.ensures inside) in
    let more = sizes_more lamp heard lamp.site.own.place c.args.best k inside in
    omega (arith, more, said, c.loop-said.invariant, c.cut_sum-size.ensures, c.if_child.ensures)

pub returns : goal.returns
returns c =
    let lamp = c.args.self.now in
    let heard : length lamp.heard ≡ 16 = search rules in
    let long = length-tellings lamp heard c.heard-said-items.ensures in
    c.loop-said.invariant ∙ ap (size_of lamp.site.own c.args.best) (whole_row lamp c.loop-said.said-index (omega (arith, c.loop-said-test.false, long)))
