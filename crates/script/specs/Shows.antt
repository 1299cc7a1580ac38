-- All that is printed for a command of a script.
use Rattle.std.specs.Prelude.{ℕ, List, [], Some, None, Ok, Err, vec_items, Option, Result}
use Rattle.std.specs.List.{flat_map}
use Rattle.telling.specs.declared.refusal.Refusal.{Refusal}
use Rattle.console.specs.Answers.{refusal_text}
use Rattle.topology.specs.declared.hall.Topology.{Topology}
use Rattle.network.specs.declared.commands.Command.{Command}
use Rattle.network.specs.declared.commands.Command.TheVariants.{Fill, SetMemory, SetWire, SetNoise, SetLamp, Do, Round, Show, Unknown}
use Rattle.network.specs.declared.state.State.{State}
use Rattle.network.specs.Carried.{numbers_at}
use Rattle.protocol.specs.declared.state.Numbers.{Numbers}
use Rattle.script.specs.Answers.{lamp_text}

-- the line of a lamp, where its numbers are there
abbrev pub line_of_lamp : ℕ → Option Numbers → List ℕ
line_of_lamp place None = []
line_of_lamp place (Some numbers) = lamp_text place numbers

-- the line of a lamp in a state
abbrev pub lamp_line : Topology → State → ℕ → List ℕ
lamp_line t s place = line_of_lamp place (numbers_at t s place)

-- a line for each lamp, in order of places
abbrev pub show_text : Topology → State → List ℕ
show_text t s = flat_map (λ site. lamp_line t s site.own.place) (vec_items t.sites)

-- what is printed for a command that was not refused: only `show` prints something
abbrev pub shown_for : Topology → State → Command → List ℕ
shown_for t s (Fill seed) = []
shown_for t s (SetMemory j i f x) = []
shown_for t s (SetWire i j f x) = []
shown_for t s (SetNoise i j) = []
shown_for t s (SetLamp i f x) = []
shown_for t s (Do d) = []
shown_for t s (Round seed) = []
shown_for t s Show = show_text t s
shown_for t s Unknown = []

-- all that is printed: the number of a refusal, else what is shown
abbrev pub answer_text : Topology → State → Command → Result (Unit {0}) Refusal → List ℕ
answer_text t s c (Err refusal) = refusal_text refusal
answer_text t s c (Ok done) = shown_for t s c
