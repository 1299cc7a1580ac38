-- One more byte is added modulo 256; at the end all of them are.
use Rattle.std.proofs.Common.{arith}
use Rattle.std.proofs.lemmas.List.Sums.{sum_by_more}
use Rattle.std.proofs.lemmas.List.{take_all}
use Rattle.telling.proofs.frame.check_of.Goals as goal

pub loop-byte-preserved : goal.loop-byte-preserved
loop-byte-preserved c =
    omega (arith, c.loop-byte.invariant, sum_by_more (λ x. x) c.args.bytes.now c.loop-byte.byte-index 0 (omega arith))

pub returns : goal.returns
returns c = rw (take_all c.loop-byte.byte-index c.args.bytes.now (omega arith)) at c.loop-byte.invariant
