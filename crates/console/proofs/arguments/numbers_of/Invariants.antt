use Rattle.std.proofs.Common.{◌≡◌, map, drop, vec_items, string_bytes}
use Rattle.console.specs.Arguments.{numbers_in}
use Rattle.text.proofs.Bytes.{behind}
use Rattle.console.proofs.arguments.numbers_of.Given as goal

-- the numbers so far and those of the words that are left make the whole
abbrev pub invariant-loop-word : goal.invariant-loop-word
invariant-loop-word l = behind (vec_items l.numbers) (numbers_in (map string_bytes (drop l.word-index l.words))) ≡ numbers_in (map string_bytes l.words)
