use Rattle.text.proofs.Bytes.{written_so}
use Rattle.text.proofs.hex_written_so.Goals as goal

pub returns : goal.returns
returns c = written_so
