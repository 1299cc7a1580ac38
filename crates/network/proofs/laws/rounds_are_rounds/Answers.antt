use Rattle.network.proofs.Rounds.{rounds_are_rounds}
use Rattle.network.proofs.laws.rounds_are_rounds.Goals as goal

pub returns : goal.returns
returns c = rounds_are_rounds
