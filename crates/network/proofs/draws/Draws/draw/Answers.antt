use Rattle.std.proofs.Common.{refl, arith}
use Rattle.network.specs.Sequence.{next_of}
use Rattle.network.proofs.draws.Draws.draw.Goals as goal

pub returns : goal.returns
unfolding next_of
returns c = record { value = refl; next = omega arith; bound = omega arith }
