use Rattle.std.proofs.Common.{rules}
use Rattle.telling.specs.Layout.{bytes_of}
use Rattle.telling.proofs.Telling.to_part.Goals as goal

pub returns : goal.returns
unfolding bytes_of
returns c = search rules
