use Rattle.std.proofs.Common.{◌<◌, ◌++◌, length, get_or, vec_items, string_bytes, ap, ◌∙◌, arith}
use Rattle.std.specs.List.{flat_map}
use Rattle.std.proofs.lemmas.List.{take_all}
use Rattle.protocol.specs.declared.facts.Own.{Own}
use Rattle.protocol.specs.declared.facts.Site.{Site}
use Rattle.script.specs.Shows.{lamp_line}
use Rattle.script.proofs.Shown.{joined_one}
use Rattle.script.proofs.performing.show_text.Goals as goal

pub loop-site-preserved : goal.loop-site-preserved
loop-site-preserved c =
    let t = c.args.hall.now in
    let state = c.args.state.now in
    let k = c.loop-site.site-index in
    let s = c.site-item.result in
    let lent = c.sites-site-items.ensures in
    let inside : k < length (vec_items t.sites) = omega (arith, c.loop-site-test.true, ap length lent) in
    let here = c.site-item.is ∙ ap (λ xs. get_or xs k s) lent in
    let line = c.as_str.ensures.value ∙ c.in_ok-line.ensures ∙ ap (λ (own : Own). lamp_line t state own.place) c.own.ensures
    ∙ ap (λ (s : Site). lamp_line t state s.own.place) here in
    joined_one (λ (s : Site). lamp_line t state s.own.place) (vec_items t.sites) k s inside c.loop-site.invariant
    (c.in_ok-push_str.ensures.bytes ∙ ap (λ bytes. string_bytes c.loop-site.text ++ bytes) line)

pub returns : goal.returns
returns c =
    let t = c.args.hall.now in
    c.loop-site.invariant
    ∙ ap (flat_map (λ (s : Site). lamp_line t c.args.state.now s.own.place))
    (take_all c.loop-site.site-index (vec_items t.sites) (omega (arith, c.loop-site-test.false, ap length c.sites-site-items.ensures)))
