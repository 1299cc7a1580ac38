use Rattle.std.proofs.Common.{Some, Ok, ap, sym, ◌∙◌, rules}
use Rattle.std.specs.Option.{option_map}
use Rattle.telling.specs.Layout.{frame_of}
use Rattle.protocol.specs.Rows.{NoWireTo, Wire}
use Rattle.protocol.proofs.Told.{tell_nowhere, tell_there, frame_on}
use Rattle.protocol.proofs.state.Lamp.tell.Goals as goal

pub returns-in_err-k : goal.returns-in_err-k
returns-in_err-k c =
    let lamp = c.args.self.now in
    let none : NoWireTo lamp.site c.args.to = search rules in
    let told = tell_nowhere lamp c.args.to none in
    search rules

pub returns-in_default : goal.returns-in_default
returns-in_default c =
    let lamp = c.args.self.now in
    let wire : Wire lamp.site c.args.to c.in_ok-k.k = search rules in
    ap (λ last. Ok (option_map (frame_on c.in_ok-k.k) last)) (sym c.in_default.is) ∙ sym (tell_there lamp c.args.to c.in_ok-k.k wire)

pub returns : goal.returns
returns c =
    let lamp = c.args.self.now in
    let k = c.in_ok-k.k in
    let wire : Wire lamp.site c.args.to k = search rules in
    ap (λ f. Ok (Some f)) (c.to_frame.ensures ∙ ap frame_of c.telling.ensures) ∙
    ap (λ last. Ok (option_map (frame_on k) last)) (sym c.in-Some.is) ∙ sym (tell_there lamp c.args.to k wire)
