use Rattle.std.proofs.Common.{◌∙◌}
use Rattle.std.proofs.lemmas.Bool.{false≢true}
use Rattle.std.proofs.lemmas.Result.{err_from_is_err_and}
use Rattle.topology.proofs.Described.{breaks_right}
use Rattle.topology.proofs.hall.Topology.of.Goals as goal

pub returns-in_err-check_wires : goal.returns-in_err-check_wires
returns-in_err-check_wires c =
    let p = err_from_is_err_and c.from_residual-in_err-check_wires.result c.from_residual-in_err-check_wires.ensures.1 in
    rw (p.1, p.2) (
    breaks_right (c.as_slice-names.ensures.value ∙ c.in_ok-all.ensures) (λ right. false≢true (c.in_err-check_wires.ensures.1 right))
    )
