-- The lines of a script, by their words.
use Rattle.std.specs.Prelude.{ℕ, cond, ◌&&◌, List, [], ◌∷◌, Some, None, codes, Option}
use Rattle.std.specs.Str.{bytes_eq}
use Rattle.text.specs.Decimal.{number_of}
use Rattle.model.specs.declared.Doing.TheVariants.{Work, Hear}
use Rattle.network.specs.declared.commands.Field.{Field}
use Rattle.network.specs.declared.commands.Field.TheVariants.{Best, Distance, Parent, Size, Total, Number, Given}
use Rattle.network.specs.declared.commands.Command.{Command}
use Rattle.network.specs.declared.commands.Command.TheVariants.{Fill, SetMemory, SetWire, SetNoise, SetLamp, Do, Round, Show, Unknown}
use Rattle.script.specs.Words.{both}

-- which number of a telling a word names
abbrev pub field_of : List ℕ → Option Field
field_of word =
    cond (bytes_eq word (codes "best")) (Some Best)
    (cond (bytes_eq word (codes "distance")) (Some Distance)
    (cond (bytes_eq word (codes "parent")) (Some Parent)
    (cond (bytes_eq word (codes "size")) (Some Size)
    (cond (bytes_eq word (codes "total")) (Some Total)
    (cond (bytes_eq word (codes "number")) (Some Number)
    (cond (bytes_eq word (codes "given")) (Some Given) None))))))

-- which number of a lamp a word names: a lamp has all of them but `given`
abbrev pub lamp_field_of : List ℕ → Option Field
lamp_field_of word = cond (bytes_eq word (codes "given")) None (field_of word)

-- a number of the lamp at a place is set, where the place, the field and the number are there
abbrev pub set_lamp : Option ℕ → Option (Field × ℕ) → Command
set_lamp None value = Unknown
set_lamp (Some place) None = Unknown
set_lamp (Some place) (Some value) = SetLamp place value.0 value.1

-- noise is put on the wire from the first place to the second, where both are there
abbrev pub set_noise : Option (ℕ × ℕ) → Command
set_noise None = Unknown
set_noise (Some places) = SetNoise places.0 places.1

-- a number of a telling is set, where both places, the field and the number are there: of what the lamp at the first place remembers of the second, or of what lies on the wire from the first to the second
abbrev pub set_telling : List ℕ → Option (ℕ × ℕ) → Option (Field × ℕ) → Command
set_telling kind None value = Unknown
set_telling kind (Some places) None = Unknown
set_telling kind (Some places) (Some value) =
    cond (bytes_eq kind (codes "memory")) (SetMemory places.0 places.1 value.0 value.1)
    (cond (bytes_eq kind (codes "wire")) (SetWire places.0 places.1 value.0 value.1) Unknown)

-- what is set, by the words behind `set`: `lamp` with a place, a field and a number; `wire` with two places and `noise`; `memory` or `wire` with two places, a field and a number
abbrev pub set_by : List ℕ → List ℕ → List ℕ → List (List ℕ) → Command
set_by kind first second [] = Unknown
set_by kind first second (third ∷ []) =
    cond (bytes_eq kind (codes "lamp")) (set_lamp (number_of first) (both (lamp_field_of second) (number_of third)))
    (cond (bytes_eq kind (codes "wire") && bytes_eq third (codes "noise")) (set_noise (both (number_of first) (number_of second))) Unknown)
set_by kind first second (third ∷ fourth ∷ []) = set_telling kind (both (number_of first) (number_of second)) (both (field_of third) (number_of fourth))
set_by kind first second (third ∷ fourth ∷ more ∷ words) = Unknown

-- `fill`, `work` or `round` with a number, where it is one
abbrev pub number_order : List ℕ → Option ℕ → Command
number_order verb None = Unknown
number_order verb (Some n) =
    cond (bytes_eq verb (codes "fill")) (Fill n)
    (cond (bytes_eq verb (codes "work")) (Do (Work n))
    (cond (bytes_eq verb (codes "round")) (Round n) Unknown))

-- `hear` with two places, where they are numbers: of the lamp that hears, and of the one it hears
abbrev pub hear_order : List ℕ → Option (ℕ × ℕ) → Command
hear_order verb None = Unknown
hear_order verb (Some places) = cond (bytes_eq verb (codes "hear")) (Do (Hear places.0 places.1)) Unknown

-- what a line asks for, by its words: `show` alone, `fill`, `work` or `round` and a number, `hear` and two places, `set` and what is set; any other line is unknown
abbrev pub command_by : List (List ℕ) → Command
command_by [] = Unknown
command_by (verb ∷ []) = cond (bytes_eq verb (codes "show")) Show Unknown
command_by (verb ∷ n ∷ []) = number_order verb (number_of n)
command_by (verb ∷ first ∷ second ∷ []) = hear_order verb (both (number_of first) (number_of second))
command_by (verb ∷ kind ∷ first ∷ second ∷ words) = cond (bytes_eq verb (codes "set")) (set_by kind first second words) Unknown
