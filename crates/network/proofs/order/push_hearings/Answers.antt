use Rattle.std.proofs.Common.{◌<◌, [], ◌∷◌, ◌++◌, map, length, get_or, vec_items, ap, ◌∙◌, arith}
use Rattle.std.proofs.lemmas.List.{take_all}
use Rattle.model.specs.declared.Doing.TheVariants.{Hear}
use Rattle.protocol.specs.Rows.{places_of}
use Rattle.network.proofs.Lists.{mapped_more}
use Rattle.network.proofs.order.push_hearings.Goals as goal

pub loop-of-preserved : goal.loop-of-preserved
loop-of-preserved c =
    let site = c.args.site.now in
    let lent = c.places-of-items.ensures in
    let inside : c.loop-of.of-index < length (places_of site) = omega (arith, ap length lent) in
    mapped_more (Hear c.own-by.result.place) (vec_items c.args.doings.now) (places_of site) c.loop-of.of-index 0 inside c.loop-of.invariant
    (c.in_ok-push.ensures.items ∙ ap (λ ps. vec_items c.loop-of.doings ++ Hear c.own-by.result.place (get_or ps c.loop-of.of-index 0) ∷ []) lent)

pub returns : goal.returns
returns c =
    let site = c.args.site.now in
    let lent = c.places-of-items.ensures in
    c.loop-of.invariant ∙ ap (λ ps. vec_items c.args.doings.now ++ map (Hear c.own-by.result.place) ps)
    (take_all c.loop-of.of-index (places_of site) (omega (arith, ap length lent)))
    ∙ ap (λ own. vec_items c.args.doings.now ++ map (Hear own.place) (places_of site)) c.own-by.ensures
