use Rattle.std.proofs.Common.{rules, ◌≡◌, ◌++◌, ap, fold, refl, ◌∙◌}
use Rattle.places.specs.Places.{with_place}
use Rattle.places.proofs.Named.{none_yet, part_more}
use Rattle.places.proofs.rising.Goals as goal

pub loop-left-init : goal.loop-left-init
loop-left-init c = none_yet c.new-places.result.items c.args.named.now c.args.named.now c.new-places.ensures.items refl

pub loop-left-preserved : goal.loop-left-preserved
loop-left-preserved c =
    let so_far = c.loop-left.invariant in
    let part = c.split_at.result.0.now in
    let behind = c.split_at.result.1.now in
    let whole : part ++ behind ≡ c.loop-left.left.now = search rules in
    let more = part_more c.loop-left.places.items part behind _ _ so_far.0 (search rules) (search rules) c.dedup.ensures.filtered in
    (more.0, more.1 ∙ ap (fold with_place c.loop-left.places.items) whole ∙ so_far.1)
