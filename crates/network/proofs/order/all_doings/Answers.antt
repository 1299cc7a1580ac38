use Rattle.std.proofs.Common.{◌++◌, map, vec_items, ap, ◌∙◌}
use Rattle.std.specs.List.{flat_map}
use Rattle.std.proofs.lemmas.List.{take_all}
use Rattle.protocol.specs.declared.facts.Site.{Site}
use Rattle.model.specs.declared.Doing.TheVariants.{Work}
use Rattle.network.specs.Order.{hearings_of}
use Rattle.network.proofs.Lists.{pieces_more}
use Rattle.network.proofs.order.all_doings.Goals as goal

pub loop-site-preserved : goal.loop-site-preserved
loop-site-preserved c =
    pieces_more hearings_of (map (λ (s : Site). Work s.own.place) c.args.sites.now) c.args.sites.now c.loop-site.site-index c.site-item.result c.loop-site-test.true
    c.loop-site.invariant (c.in_ok-push_hearings.ensures ∙ ap (λ s. vec_items c.loop-site.doings ++ hearings_of s) c.site-item.is)

pub returns : goal.returns
returns c =
    c.loop-site.invariant ∙ ap (λ xs. map (λ s. Work s.own.place) c.args.sites.now ++ flat_map hearings_of xs) (take_all c.loop-site.site-index c.args.sites.now c.loop-site-test.false)
