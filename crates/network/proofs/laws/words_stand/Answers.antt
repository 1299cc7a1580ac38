use Rattle.network.proofs.Standing.{words_stand}
use Rattle.network.proofs.laws.words_stand.Goals as goal

pub returns : goal.returns
returns c = words_stand
