use Rattle.telling.proofs.Parts as parts
use Rattle.telling.proofs.memory.parts_apart.Goals as goal

pub returns : goal.returns
returns c = parts.parts_apart
