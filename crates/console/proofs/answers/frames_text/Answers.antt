use Rattle.std.proofs.Common.{ℕ, ◌<◌, List, length, get_or, ap, ◌∙◌, arith}
use Rattle.std.specs.List.{flat_map}
use Rattle.std.proofs.lemmas.List.{take_all}
use Rattle.protocol.specs.Rows.{places_of}
use Rattle.protocol.specs.Works.{tell_of}
use Rattle.console.specs.Answers.{told_as, line_text}
use Rattle.console.proofs.Texts.{pieces_more}
use Rattle.console.proofs.answers.frames_text.Goals as goal

pub loop-place-preserved : goal.loop-place-preserved
loop-place-preserved c =
    let lamp = c.args.lamp.now in
    let k = c.loop-place.place-index in
    let line : ℕ → List ℕ = λ place. line_text (told_as place (tell_of lamp place)) in
    let inside : k < length (places_of lamp.site) = omega (arith, c.loop-place-test.true, ap length c.places-place-items.ensures) in
    let told = c.told.ensures ∙ ap (told_as _) c.tell.ensures in
    let piece = c.as_str.ensures.value ∙ c.in_ok-line.ensures ∙ ap line_text told ∙ ap (λ ps. line (get_or ps k 0)) c.places-place-items.ensures in
    pieces_more line (places_of lamp.site) k _ _ _ inside c.loop-place.invariant piece c.in_ok-push_str.ensures.bytes

pub returns : goal.returns
returns c =
    let lamp = c.args.lamp.now in
    c.loop-place.invariant ∙
    ap (flat_map (λ place. line_text (told_as place (tell_of lamp place))))
    (take_all c.loop-place.place-index (places_of lamp.site) (omega (arith, c.loop-place-test.false, ap length c.places-place-items.ensures)))
