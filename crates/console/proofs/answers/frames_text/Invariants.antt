use Rattle.std.proofs.Common.{◌≡◌, take, string_bytes}
use Rattle.std.specs.List.{flat_map}
use Rattle.protocol.specs.Rows.{places_of}
use Rattle.protocol.specs.Works.{tell_of}
use Rattle.console.specs.Answers.{told_as, line_text}
use Rattle.console.proofs.answers.frames_text.Given as goal

-- a line for each place so far
abbrev pub invariant-loop-place : goal.invariant-loop-place
invariant-loop-place l =
    string_bytes l.text ≡ flat_map (λ place. line_text (told_as place (tell_of l.lamp place))) (take l.place-index (places_of l.lamp.site))
