use Rattle.std.proofs.Common.{refl, ◌∙◌}
use Rattle.topology.proofs.Spreads.{spread_more}
use Rattle.topology.proofs.reach.spread.Goals as goal

pub loop-place-preserved : goal.loop-place-preserved
loop-place-preserved c =
    let r = c.reach-grew.ensures in
    spread_more c.args.sites.now c.args.reached.now c.loop-place.reached c.loop-place.grew c.loop-place.place c.loop-place.invariant
    c.index-sites-place.result c.loop-place-test.true (c.loop-place.invariant.long ∙ c.requires) c.index-sites-place.is
    c.reach-grew.result c.reach-grew.new.reached _ r.next r.after refl
