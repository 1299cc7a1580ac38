use Rattle.std.proofs.Common.{sym}
use Rattle.std.proofs.lemmas.Bool.{cond-true}
use Rattle.network.proofs.Tables.{slot_wired}
use Rattle.network.proofs.refusals.wired.Goals as goal

pub returns : goal.returns
returns c =
    let slot = rw (c.ok_or.ensures.ok_part, c.in_ok-ok_or.was) at c.slot.ensures.found in
    sym (cond-true _ _ _ (slot_wired slot))
