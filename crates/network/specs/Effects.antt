-- What each command of a script makes of a net, and which commands are refused.
use Rattle.std.specs.Prelude.{ℕ, Bool, true, false, cond, ◌&&◌, List, Ok, Err, fold, Result, nat_lt}
use Rattle.telling.specs.declared.Telling.{Telling}
use Rattle.telling.specs.declared.frame.Reading.{Reading}
use Rattle.telling.specs.declared.frame.Reading.TheVariants.{Told, Noise}
use Rattle.telling.specs.declared.refusal.Refusal.{Refusal}
use Rattle.telling.specs.declared.refusal.Refusal.TheVariants.{NoWire, Input}
use Rattle.protocol.specs.declared.facts.Site.{Site}
use Rattle.protocol.specs.declared.state.Numbers.{Numbers}
use Rattle.protocol.specs.Rules.{nothing}
use Rattle.model.specs.declared.Doing.{Doing}
use Rattle.model.specs.declared.Doing.TheVariants.{Work, Hear}
use Rattle.model.specs.Halls.{Hall, is_wired}
use Rattle.model.specs.Nets.{Net, remembering, laid, noted, did, ran}
use Rattle.network.specs.declared.commands.Field.{Field}
use Rattle.network.specs.declared.commands.Field.TheVariants.{Best, Distance, Parent, Size, Total, Number, Given}
use Rattle.network.specs.declared.commands.Command.{Command}
use Rattle.network.specs.declared.commands.Command.TheVariants.{Fill, SetMemory, SetWire, SetNoise, SetLamp, Do, Round, Show, Unknown}
use Rattle.network.specs.Parts.{Part, Memories, Wires, Lamps}
use Rattle.network.specs.Sequence.{after, telling_from, numbers_from}
use Rattle.network.specs.Order.{doings_in, order_of}

-- a telling with one number set, all else as it was
abbrev pub with_field : Field → ℕ → Telling → Telling
with_field Best x t = record { best = x; distance = t.distance; parent = t.parent; size = t.size; total = t.total; number = t.number; given = t.given }
with_field Distance x t = record { best = t.best; distance = x; parent = t.parent; size = t.size; total = t.total; number = t.number; given = t.given }
with_field Parent x t = record { best = t.best; distance = t.distance; parent = x; size = t.size; total = t.total; number = t.number; given = t.given }
with_field Size x t = record { best = t.best; distance = t.distance; parent = t.parent; size = x; total = t.total; number = t.number; given = t.given }
with_field Total x t = record { best = t.best; distance = t.distance; parent = t.parent; size = t.size; total = x; number = t.number; given = t.given }
with_field Number x t = record { best = t.best; distance = t.distance; parent = t.parent; size = t.size; total = t.total; number = x; given = t.given }
with_field Given x t = record { best = t.best; distance = t.distance; parent = t.parent; size = t.size; total = t.total; number = t.number; given = x }

-- a lamp's numbers with one set; a lamp has no number given
abbrev pub with_number : Field → ℕ → Numbers → Numbers
with_number Best x w = record { best = x; distance = w.distance; parent = w.parent; size = w.size; total = w.total; number = w.number }
with_number Distance x w = record { best = w.best; distance = x; parent = w.parent; size = w.size; total = w.total; number = w.number }
with_number Parent x w = record { best = w.best; distance = w.distance; parent = x; size = w.size; total = w.total; number = w.number }
with_number Size x w = record { best = w.best; distance = w.distance; parent = w.parent; size = x; total = w.total; number = w.number }
with_number Total x w = record { best = w.best; distance = w.distance; parent = w.parent; size = w.size; total = x; number = w.number }
with_number Number x w = record { best = w.best; distance = w.distance; parent = w.parent; size = w.size; total = w.total; number = x }
with_number Given x w = w

-- where a number stands among a telling's words, and a lamp's
abbrev pub place_of : Field → ℕ
place_of Best = 0
place_of Distance = 1
place_of Parent = 2
place_of Size = 3
place_of Total = 4
place_of Number = 5
place_of Given = 6

-- has a lamp a number of this kind
abbrev pub is_of_lamp : Field → Bool
is_of_lamp Best = true
is_of_lamp Distance = true
is_of_lamp Parent = true
is_of_lamp Size = true
is_of_lamp Total = true
is_of_lamp Number = true
is_of_lamp Given = false

-- the telling that lies on a wire, zeros where noise does
abbrev pub or_zeros : Reading → Telling
or_zeros (Told t) = t
or_zeros Noise = nothing

-- filling goes through all doings, once for each part: for each hearing a telling is drawn into the memory, or onto the wire, between its two places
-- (for a wire the first is the teller); for each work the lamp's numbers are drawn. The state of the sequence goes along.
unfoldable pub drawn : Part → ℕ × Net → Doing → ℕ × Net
drawn Memories (s, n) (Work i) = (s, n)
drawn Memories (s, n) (Hear j i) = (after 7 s, remembering j i (telling_from s) n)
drawn Wires (s, n) (Work i) = (s, n)
drawn Wires (s, n) (Hear i j) = (after 7 s, laid i j (Told (telling_from s)) n)
drawn Lamps (s, n) (Work i) = (after 6 s, noted i (numbers_from s) n)
drawn Lamps (s, n) (Hear j i) = (s, n)

-- one part filled
abbrev pub filled : Part → List Doing → ℕ × Net → ℕ × Net
filled part ds sn = fold (drawn part) sn ds

-- memories, wires and lamps, in this order
abbrev pub all_filled : List Doing → ℕ → Net → Net
all_filled ds seed n = (filled Lamps ds (filled Wires ds (filled Memories ds (seed, n)))).1

-- what a command makes of a net
unfoldable pub effect_of : Hall → List Site → Command → Net → Net
effect_of h sites (Fill seed) n = all_filled (doings_in sites) seed n
effect_of h sites (SetMemory j i f x) n = remembering j i (with_field f x (n.heard j i)) n
effect_of h sites (SetWire i j f x) n = laid i j (Told (with_field f x (or_zeros (n.line i j)))) n
effect_of h sites (SetNoise i j) n = laid i j Noise n
effect_of h sites (SetLamp i f x) n = noted i (with_number f x (n.lamp i)) n
effect_of h sites (Do d) n = did h d n
effect_of h sites (Round seed) n = ran h (order_of seed (doings_in sites)) n
effect_of h sites Show n = n
effect_of h sites Unknown n = n

-- refused where a test fails
abbrev pub unless : Bool → Refusal → Result (Unit {0}) Refusal
unless good refusal = cond good (Ok tt) (Err refusal)

-- the refusal of a command: 2 where there is no such wire; 4 where there is no such lamp or number, or the line is not of the format
abbrev pub refusal_of : Hall → Command → Result (Unit {0}) Refusal
refusal_of h (Fill seed) = Ok tt
refusal_of h (SetMemory j i f x) = unless (is_wired h j i) NoWire
refusal_of h (SetWire i j f x) = unless (is_wired h j i) NoWire
refusal_of h (SetNoise i j) = unless (is_wired h j i) NoWire
refusal_of h (SetLamp i f x) = unless (is_of_lamp f && nat_lt i h.count) Input
refusal_of h (Do (Work i)) = unless (nat_lt i h.count) Input
refusal_of h (Do (Hear j i)) = unless (is_wired h j i) NoWire
refusal_of h (Round seed) = Ok tt
refusal_of h Show = Ok tt
refusal_of h Unknown = Err Input

-- a refused command changes nothing
abbrev pub unless_refused : Result (Unit {0}) Refusal → Net → Net → Net
unless_refused (Ok done) before after = after
unless_refused (Err refusal) before after = before

-- a net after a command, and after all commands of a script in their order
abbrev pub carried_out : Hall → List Site → Net → Command → Net
carried_out h sites n c = unless_refused (refusal_of h c) n (effect_of h sites c n)

abbrev pub performed : Hall → List Site → List Command → Net → Net
performed h sites script n = fold (carried_out h sites) n script
