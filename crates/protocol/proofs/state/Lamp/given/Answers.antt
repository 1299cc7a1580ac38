use Rattle.std.proofs.Common.{◌≡◌, ◌<◌, length, get_or, ap, arith, length-set, rules}
use Rattle.protocol.specs.Rows.{Neighbour, remembered}
use Rattle.protocol.specs.Rules.{given_to, child_size}
use Rattle.protocol.proofs.Rows.{sizes_more, length-tellings, telling_kth}
use Rattle.protocol.proofs.Siblings.{given_kth}
use Rattle.protocol.proofs.Writes.{written_more}
use Rattle.protocol.proofs.state.Lamp.given.Goals as goal

pub loop-k-preserved : goal.loop-k-preserved
loop-k-preserved c =
    let lamp = c.args.self.now in
    let k = c.loop-k.k in
    let heard : length lamp.heard ≡ 16 = search rules in
    let same = c.heard-said-items.ensures in
    let within : k < lamp.site.wires = omega (arith, c.loop-k-test.true, length-tellings lamp heard same) in
    let said = telling_kth lamp heard k same within in
    let inside : k < length c.loop-k.given = omega (arith, lamp.site.few, c.loop-k.invariant.2) in
    let more = sizes_more lamp heard lamp.site.own.place c.args.best k within in
    let size = ap (child_size lamp.site.own.place c.args.best) said in
    let here = λ (d : Neighbour).
    given_kth lamp heard c.args.best c.args.number k c.loop-k.next c.if_child.result d within c.loop-k.invariant.0 (rw said at c.if_child.ensures) in (
      omega (arith, more, size, c.loop-k.invariant.0, c.cut_sum-next-in-loop-k.ensures, c.if_child-in-loop-k.ensures),
      written_more c.loop-k.given k c.if_child.result 0
          (λ j x. (d : Neighbour) → x ≡ given_to lamp.site.own c.args.best c.args.number (remembered lamp) (get_or (remembered lamp) j d))
          inside c.loop-k.invariant.1 here,
      simp length-set c.loop-k.invariant.2,
    )
