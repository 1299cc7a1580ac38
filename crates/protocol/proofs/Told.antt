-- What lies on the wire to a place, by whether it is wired.
use Rattle.std.proofs.Common.{◌≡◌, ℕ, ◌<◌, true, List, map, length, get_or, Some, None, Ok, Err, Option, refl, ap, ◌∙◌, arith}
use Rattle.std.specs.Option.{option_map}
use Rattle.std.proofs.lemmas.List.{get_or-map, length-map}
use Rattle.telling.specs.declared.refusal.Refusal.TheVariants.{NoWire}
use Rattle.telling.specs.Layout.{frame_of}
use Rattle.protocol.specs.declared.facts.Site.{Site}
use Rattle.protocol.specs.declared.state.Lamp.{Lamp}
use Rattle.protocol.specs.declared.state.Work.{Work}
use Rattle.protocol.specs.Rows.{row_of, places_of, Wire, NoWireTo}
use Rattle.protocol.specs.Rules.{nothing, telling_at, telling_with}
use Rattle.protocol.specs.Works.{on_wires, frame_to, tell_of}
use Rattle.protocol.proofs.Wires.{wire_there, wire_missing, said_there}

pub tell_nowhere : (l : Lamp) (to : ℕ) → NoWireTo l.site to → tell_of l to ≡ Err NoWire
tell_nowhere l to none = ap (λ w. frame_to to w (on_wires l)) (wire_missing l.site to none)

-- the frame that a work tells on its k-th wire
abbrev pub frame_on : ℕ → Work → List ℕ
frame_on k w = frame_of (telling_with w.numbers (get_or w.given k 0))

told_there : (s : Site) (to k : ℕ) → Wire s to k → (w : Work) → telling_at to (row_of (places_of s) (map (telling_with w.numbers) w.given)) ≡ telling_with w.numbers (get_or w.given k 0)
told_there s to k wire w =
    let inside : k < length w.given = omega (arith, wire.there, s.few, w.full) in
    said_there s to k wire (map (telling_with w.numbers) w.given) (length-map w.given (telling_with w.numbers) ∙ w.full) ∙
    get_or-map (telling_with w.numbers) w.given k 0 nothing inside

frame_there : (s : Site) (to k : ℕ) → Wire s to k → (last : Option Work) → frame_to to true (option_map (λ w. row_of (places_of s) (map (telling_with w.numbers) w.given)) last) ≡ Ok (option_map (frame_on k) last)
frame_there s to k wire None = refl
frame_there s to k wire (Some w) = ap (λ t. Ok (Some (frame_of t))) (told_there s to k wire w)

pub tell_there : (l : Lamp) (to k : ℕ) → Wire l.site to k → tell_of l to ≡ Ok (option_map (frame_on k) l.last)
tell_there l to k wire = ap (λ w. frame_to to w (on_wires l)) (wire_there l.site to k wire) ∙ frame_there l.site to k wire l.last
