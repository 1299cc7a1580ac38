use Rattle.std.proofs.Common.{◌≡◌, ◌+◌, ◌*◌, ◌/◌, ◌<◌, ◌≤◌, true, ltb, length, get_or, ap, ◌∙◌, arith, below_more, rules}
use Rattle.std.proofs.lemmas.Bool.{lt-ltb, cond-true}
use Rattle.telling.specs.Layout.{bytes_of, part_of, stored}
use Rattle.telling.proofs.Parts.{part_here, part_below}
use Rattle.protocol.specs.Rules.{nothing}
use Rattle.protocol.proofs.Rows.{length-tellings, telling_kth}
use Rattle.protocol.proofs.state.Lamp.store.Goals as goal

pub loop-k-preserved : goal.loop-k-preserved
loop-k-preserved c =
    let k = c.loop-k.k in
    let memory = c.loop-k.memory in
    let lamp = c.args.self.now in
    let said = get_or lamp.heard k nothing in
    let heard : length lamp.heard ≡ 16 = search rules in
    let same = c.heard-said-items.ensures in
    let within : k < lamp.site.wires = omega (arith, c.loop-k-test.true, length-tellings lamp heard same) in
    let told = telling_kth lamp heard k same within in
    let long : length memory ≡ 28 * c.args.self.now.site.wires = omega (arith, c.loop-k.auto.memory) in
    let room : 28 * k + 28 ≤ length memory = omega arith in
    let has : ltb k (length memory / 28) ≡ true = lt-ltb _ _ (omega arith) in
    let after : c.store.new.memory ≡ stored memory k said = c.store.ensures.after ∙ cond-true _ _ _ has ∙ ap (stored memory k) told in
    below_more (λ j. part_of c.store.new.memory j ≡ bytes_of (get_or c.args.self.now.heard j nothing)) _
    (λ j h. ap (λ m. part_of m j) after ∙ part_below memory k said room j h ∙ c.loop-k.invariant j h)
    (ap (λ m. part_of m k) after ∙ part_here memory k said room)
