-- The frame's bytes are laid one after the other.
use Rattle.std.proofs.Common.{◌∙◌, length-append, rules}
use Rattle.telling.proofs.Frames.{sealed}
use Rattle.telling.proofs.Telling.to_frame.Goals as goal

pub slice_bounds-check_of-end : goal.slice_bounds-check_of-end
slice_bounds-check_of-end c = search (rules, length-append)

pub returns : goal.returns
returns c = sealed _ c.args.self _ (c.copy_from_slice.ensures.after ∙ c.to_part.ensures) c.check_of.ensures
