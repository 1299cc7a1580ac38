use Rattle.std.proofs.Common.{◌≡◌, length, arith, rules}
use Rattle.network.proofs.Overwrites.{part_put}
use Rattle.network.proofs.words.put.Goals as goal

pub returns : goal.returns
returns g c =
    let whole : length c.args.part ≡ g.row.N = search rules in
    part_put g.row.N c.args.words.now c.args.part c.args.place c.requires whole _ _ (omega arith) c.copy_from_slice.ensures.after
