use Rattle.std.proofs.Common.{◌*◌, take, drop, ap, ◌∙◌, arith}
use Rattle.network.specs.Words.{part_in}
use Rattle.network.proofs.words.part.Goals as goal

pub returns : goal.returns
unfolding part_in
returns g c = c.copy_from_slice.ensures.after ∙ ap (λ n. take n (drop (g.row.N * c.args.place) c.args.words.now)) (omega arith)
