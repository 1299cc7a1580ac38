use Rattle.std.proofs.Common.{rules}
use Rattle.protocol.specs.Rules.{compared}
use Rattle.protocol.proofs.work.Best.compared.Goals as goal

pub returns-in_default : goal.returns-in_default
unfolding compared
returns-in_default c = search rules

pub returns-then-nearer : goal.returns-then-nearer
unfolding compared
returns-then-nearer c = search rules

pub returns-else-distance-most : goal.returns-else-distance-most
unfolding compared
returns-else-distance-most c = search rules
