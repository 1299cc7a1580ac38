use Rattle.topology.proofs.Described.{sound_of}
use Rattle.topology.proofs.reading.accepted_is_sound.Goals as goal

pub returns : goal.returns
returns c = sound_of
