-- What a lamp answers to what a line means, what becomes of the lamp, and the text of the answer.
use Rattle.std.specs.Prelude.{◌≡◌, ℕ, List, [], ◌++◌, Some, None, Ok, Err, codes, decimal, Option, Result}
use Rattle.std.specs.List.{flat_map}
use Rattle.telling.specs.declared.frame.Reading.{Reading}
use Rattle.telling.specs.declared.frame.Reading.TheVariants.{Noise}
use Rattle.telling.specs.declared.refusal.Refusal.{Refusal}
use Rattle.telling.specs.declared.refusal.Refusal.TheVariants.{Input}
use Rattle.telling.specs.Readings.{reading_of}
use Rattle.telling.specs.Refusals.{refusal_number}
use Rattle.text.specs.Hex.{hex_of}
use Rattle.protocol.specs.declared.state.Lamp.{Lamp}
use Rattle.protocol.specs.declared.state.Numbers.{Numbers}
use Rattle.protocol.specs.Rows.{places_of}
use Rattle.protocol.specs.Hearing.{refused_by, Heard}
use Rattle.protocol.specs.Works.{shown, numbers_line, Worked, tell_of}
use Rattle.console.specs.declared.answers.Answer.{Answer}
use Rattle.console.specs.declared.answers.Answer.TheVariants as said
use Rattle.console.specs.Lines.{Meaning, work, hear, tell, show, unknown}

-- nothing is said where something was heard, else the refusal
abbrev pub heard_as : Result (Unit {0}) Refusal → Answer
heard_as (Ok done) = said.Silence
heard_as (Err refusal) = said.Refused refusal

-- the frame on the wire to a place, if there is one yet, or the refusal
abbrev pub told_as : ℕ → Result (Option (List ℕ)) Refusal → Answer
told_as place (Ok (Some frame)) = said.Frame place frame
told_as place (Ok None) = said.NotYet
told_as place (Err refusal) = said.Refused refusal

-- the numbers worked out last, if there are any yet
abbrev pub shown_as : Option Numbers → Answer
shown_as None = said.NotYet
shown_as (Some numbers) = said.Numbers numbers

-- digits that write no bytes are noise
abbrev pub reading_in : Option (List ℕ) → Reading
reading_in None = Noise
reading_in (Some frame) = reading_of frame

-- what becomes of a lamp by a line, and what it answers
abbrev pub Answered : Meaning → Lamp → Lamp → Answer → Type 0
Answered work before after answer = Worked before after × (answer ≡ said.Frames)
Answered (hear place frame) before after answer =
    Heard (reading_in frame) place before after (refused_by before place (reading_in frame)) × (answer ≡ heard_as (refused_by before place (reading_in frame)))
Answered (tell place) before after answer = (after ≡ before) × (answer ≡ told_as place (tell_of before place))
Answered show before after answer = (after ≡ before) × (answer ≡ shown_as (shown before))
Answered unknown before after answer = (after ≡ before) × (answer ≡ said.Refused Input)

-- a refusal's number
abbrev pub refusal_text : Refusal → List ℕ
refusal_text refusal = decimal (refusal_number refusal) ++ codes "\n"

-- a place and a frame that is for it
abbrev pub frame_text : ℕ → List ℕ → List ℕ
frame_text place frame = decimal place ++ (codes " " ++ (hex_of frame ++ codes "\n"))

-- six numbers in their order, a space between two
abbrev pub numbers_text : Numbers → List ℕ
numbers_text n = numbers_line n ++ codes "\n"

-- the line of an answer that has one: a refusal by its number, a frame with its place, numbers, `none`
abbrev pub line_text : Answer → List ℕ
line_text said.Silence = []
line_text (said.Refused refusal) = refusal_text refusal
line_text said.Frames = []
line_text (said.Frame place frame) = frame_text place frame
line_text (said.Numbers numbers) = numbers_text numbers
line_text said.NotYet = codes "none\n"

-- a line for each wire, by rising place: what is told there
abbrev pub frames_text : Lamp → List ℕ
frames_text lamp = flat_map (λ place. line_text (told_as place (tell_of lamp place))) (places_of lamp.site)

-- all that is printed for a lamp's answer
abbrev pub text_of : Lamp → Answer → List ℕ
text_of lamp said.Silence = line_text said.Silence
text_of lamp (said.Refused refusal) = line_text (said.Refused refusal)
text_of lamp said.Frames = frames_text lamp
text_of lamp (said.Frame place frame) = line_text (said.Frame place frame)
text_of lamp (said.Numbers numbers) = line_text (said.Numbers numbers)
text_of lamp said.NotYet = line_text said.NotYet
