use Rattle.places.proofs.Named.{rising_and_whole}
use Rattle.places.proofs.places_are_those_named.Goals as goal

pub returns : goal.returns
returns c = rising_and_whole
