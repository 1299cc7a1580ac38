use Rattle.std.proofs.Common.{refl, rules}
use Rattle.network.specs.Turns.{state_in}
use Rattle.network.proofs.Overwrites.{telling_put}
use Rattle.network.proofs.Changes.{same_memories, other_memories}
use Rattle.network.proofs.lent.Lent.remember.Goals as goal

pub returns-in-Some : goal.returns-in-Some
returns-in-Some c =
    let l = c.args.self.now in
    record {
      lent = search rules;
      becomes = other_memories l.hall.now (state_in l) l.roomy _ refl refl refl c.args.by c.args.of c.in-Some.slot c.args.said c.in-Some.ensures.found (telling_put _ _ c.in-Some.slot c.args.said c.into.result c.into.ensures c.put.ensures);
    }

pub returns-in_default : goal.returns-in_default
returns-in_default c =
    let l = c.args.self.now in
    record { lent = search rules; becomes = same_memories l.hall.now (state_in l) l.roomy c.args.by c.args.of c.args.said c.in_default.ensures.found }
