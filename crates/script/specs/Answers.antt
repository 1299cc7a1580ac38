-- How a lamp of a hall is shown.
use Rattle.std.specs.Prelude.{ℕ, List, ◌++◌, codes, decimal}
use Rattle.protocol.specs.declared.state.Numbers.{Numbers}
use Rattle.console.specs.Answers.{numbers_text}

-- a lamp's place, a colon and a space, and then its numbers and the line's end
abbrev pub lamp_text : ℕ → Numbers → List ℕ
lamp_text place numbers = decimal place ++ (codes ": " ++ numbers_text numbers)
