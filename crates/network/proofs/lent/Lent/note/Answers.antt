use Rattle.std.proofs.Common.{refl, rules}
use Rattle.network.specs.Turns.{state_in}
use Rattle.network.proofs.Overwrites.{numbers_put}
use Rattle.network.proofs.Changes.{other_lamps}
use Rattle.network.proofs.lent.Lent.note.Goals as goal

pub returns-then-hangs : goal.returns-then-hangs
returns-then-hangs c =
    let l = c.args.self.now in
    record {
      lent = search rules;
      becomes =
          other_lamps l.hall.now (state_in l) l.roomy _ refl refl refl c.args.place c.args.numbers
          (numbers_put _ _ c.args.place c.args.numbers c.into.result c.into.ensures c.put.ensures);
    }
