use Rattle.text.proofs.Bytes.{reads_back}
use Rattle.text.proofs.hex_reads_back.Goals as goal

pub returns : goal.returns
returns c = reads_back
