-- The lines of a hall file, by their words.
use Rattle.std.specs.Prelude.{ℕ, cond, List, [], ◌∷◌, Some, None, codes, Option}
use Rattle.std.specs.Str.{bytes_eq}
use Rattle.text.specs.Decimal.{number_of}
use Rattle.topology.specs.declared.lines.Line.{Line}
use Rattle.topology.specs.declared.lines.Line.TheVariants.{Most, Lamp, Wire, Unknown}
use Rattle.script.specs.Words.{both}

-- `most` or `lamp` with a number, where it is one
abbrev pub number_line : List ℕ → Option ℕ → Line
number_line verb None = Unknown
number_line verb (Some n) = cond (bytes_eq verb (codes "most")) (Most n) (cond (bytes_eq verb (codes "lamp")) (Lamp n) Unknown)

-- `wire` with two places, where they are numbers
abbrev pub wire_line : List ℕ → Option (ℕ × ℕ) → Line
wire_line verb None = Unknown
wire_line verb (Some ends) = cond (bytes_eq verb (codes "wire")) (Wire ends.0 ends.1) Unknown

-- what a line says, by its words: `most` and a number, `lamp` and a name, `wire` and two places; any other line is unknown
abbrev pub line_by : List (List ℕ) → Line
line_by [] = Unknown
line_by (verb ∷ []) = Unknown
line_by (verb ∷ n ∷ []) = number_line verb (number_of n)
line_by (verb ∷ first ∷ second ∷ []) = wire_line verb (both (number_of first) (number_of second))
line_by (verb ∷ first ∷ second ∷ more ∷ words) = Unknown
