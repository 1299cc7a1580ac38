use Rattle.std.proofs.Common.{◌≡◌, length, vec_items}
use Rattle.text.specs.Hex.{bytes_of}
use Rattle.text.proofs.Bytes.{behind}
use Rattle.text.proofs.bytes_of.Given as goal

-- the bytes so far and those of the digits that are left make the whole
abbrev pub invariant-loop-rest : goal.invariant-loop-rest
invariant-loop-rest l = behind (vec_items l.bytes) (bytes_of l.rest) ≡ bytes_of l.digits

abbrev pub decreases-loop-rest : goal.decreases-loop-rest
decreases-loop-rest l = length l.rest
