use Rattle.model.specs.Nets.{did}
use Rattle.network.proofs.lent.Lent.carry.Goals as goal

pub returns-in-Work : goal.returns-in-Work
unfolding did
returns-in-Work c = rw c.in-Work.is c.work.ensures

pub returns-in-Hear : goal.returns-in-Hear
unfolding did
returns-in-Hear c = rw c.in-Hear.is c.hear.ensures
