use Rattle.std.proofs.Common.{◌≡◌, ◌≤◌, drop}
use Rattle.text.specs.Decimal.{number_of, largest}
use Rattle.text.proofs.Numbers.{number_after}
use Rattle.text.proofs.number.Given as goal

-- the digits so far and those to come give the word's number
abbrev pub invariant-loop-b : goal.invariant-loop-b
invariant-loop-b l = (l.read ≤ largest) × (number_after l.read (drop l.b-index l.word) ≡ number_of l.word)
