use Rattle.std.proofs.Common.{◌+◌, take, Some, ap, ◌∙◌}
use native.Mathlib.Nat.{sub-zero}
use Rattle.std.proofs.lemmas.List.{take_rest}
use Rattle.text.proofs.Cuts.{cut_here, cut_end}
use Rattle.text.proofs.cut_at.Goals as goal

pub returns-in-Some : goal.returns-in-Some
returns-in-Some c =
    let bytes = c.args.bytes.now in
    let i = c.in-Some.i in
    let h = cut_here c.args.end bytes i c.in-Some.ensures in
    record { before = ap (λ n. take n bytes) (sub-zero i) ∙ h.0; behind = ap Some (take_rest bytes (i + 1)) ∙ h.1 }

pub returns-in-None : goal.returns-in-None
returns-in-None c =
    let h = cut_end c.args.end c.args.bytes.now c.in-None.ensures in
    record { before = h.0; behind = h.1 }
