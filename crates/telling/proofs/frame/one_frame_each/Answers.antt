use Rattle.telling.proofs.Frames.{read_back, only_frame}
use Rattle.telling.proofs.frame.one_frame_each.Goals as goal

pub returns : goal.returns
returns c = (read_back, only_frame)
