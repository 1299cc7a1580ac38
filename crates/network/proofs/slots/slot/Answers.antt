use Rattle.network.proofs.Sites.{no_lamp, no_slot_at}
use Rattle.network.proofs.slots.slot.Goals as goal

pub returns-in_err-get-clause-found : goal.returns-in_err-get-clause-found
returns-in_err-get-clause-found c =
    rw c.from_residual.ensures (no_lamp c.args.hall.now _ c.sites.ensures c.args.by c.args.of c.in_err-get.ensures.lookup.3)

pub returns-in_err-wire-clause-found : goal.returns-in_err-wire-clause-found
returns-in_err-wire-clause-found c =
    let found = c.in_ok-get.ensures.lookup in
    rw c.from_residual-in_err-wire.ensures
    (no_slot_at c.args.hall.now _ c.sites.ensures c.args.by c.args.of c.in_ok-get.field-0.now found.3.0 found.1 c.in_err-wire.ensures)
