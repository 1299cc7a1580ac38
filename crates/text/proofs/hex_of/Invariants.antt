use Rattle.std.proofs.Common.{◌≡◌, ◌++◌, drop, string_bytes}
use Rattle.text.specs.Hex.{hex_of}
use Rattle.text.proofs.hex_of.Given as goal

-- what is written and what is yet to be written make the whole
abbrev pub invariant-loop-b : goal.invariant-loop-b
invariant-loop-b l = string_bytes l.text ++ hex_of (drop l.b-index l.bytes) ≡ hex_of l.bytes
