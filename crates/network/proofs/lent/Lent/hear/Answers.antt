use Rattle.std.proofs.Common.{refl, rules}
use Rattle.network.specs.Turns.{state_in}
use Rattle.network.proofs.Overwrites.{telling_put}
use Rattle.network.proofs.Changes.{heard_none, heard_noise, heard_told, other_memories}
use Rattle.network.proofs.lent.Lent.hear.Goals as goal

pub returns-in_default : goal.returns-in_default
returns-in_default c =
    let l = c.args.self.now in
    record { lent = search rules; becomes = heard_none l.hall.now (state_in l) l.roomy c.args.by c.args.of c.in_default.ensures.found }

pub returns-in-Told : goal.returns-in-Told
returns-in-Told c =
    let l = c.args.self.now in
    let slot = c.in-Some.ensures.found in
    let put = other_memories l.hall.now (state_in l) l.roomy _ refl refl refl c.args.by c.args.of c.in-Some.slot c.in-Told.said slot (telling_put _ _ c.in-Some.slot c.in-Told.said c.into.result c.into.ensures c.put.ensures) in
    record {
      lent = search rules;
      becomes = heard_told l.hall.now (state_in l) l.roomy _ c.args.by c.args.of c.in-Some.slot c.in-Told.said slot c.in-Told.ensures put;
    }

pub returns-in_default-reading : goal.returns-in_default-reading
returns-in_default-reading c =
    let l = c.args.self.now in
    record { lent = search rules; becomes = heard_noise l.hall.now (state_in l) l.roomy c.args.by c.args.of c.in-Some.slot c.in-Some.ensures.found c.in_default-reading.ensures }
