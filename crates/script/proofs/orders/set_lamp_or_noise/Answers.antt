use Rattle.std.proofs.Common.{◌≡◌, codes, rules}
use Rattle.std.proofs.lemmas.Slice.Eq.{text_from_reads}
use Rattle.script.proofs.orders.set_lamp_or_noise.Goals as goal

pub returns-in_ok-number-in-wire-noise-2 : goal.returns-in_ok-number-in-wire-noise-2
returns-in_ok-number-in-wire-noise-2 c =
    let kind : c.args.kind.now ≡ codes "wire" = search (rules, text_from_reads) in
    let third : c.args.third.now ≡ codes "noise" = search (rules, text_from_reads) in
    rw (kind, third) (search rules)
