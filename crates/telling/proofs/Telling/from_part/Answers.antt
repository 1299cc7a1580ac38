use Rattle.std.proofs.Common.{rules}
use Rattle.telling.specs.Layout.{telling_of}
use Rattle.telling.proofs.Telling.from_part.Goals as goal

pub returns : goal.returns
unfolding telling_of
returns c = search rules
