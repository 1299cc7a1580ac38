use Rattle.std.proofs.Common.{◌≡◌, length, Some, refl, ap, ◌∙◌, rules}
use Rattle.protocol.specs.Rows.{remembered}
use Rattle.protocol.specs.Rules.{numbers_of}
use Rattle.protocol.proofs.Tells.{told_row}
use Rattle.protocol.proofs.state.Lamp.work.Goals as goal

pub returns : goal.returns
returns c =
    let lamp = c.args.self in
    let heard : length lamp.heard ≡ 16 = search rules in
    let given : length c.given-given.result ≡ 16 = search rules in
    record {
      site = refl;
      heard = refl;
      numbers = ap Some (c.numbers-numbers.ensures ∙ ap (λ b. numbers_of lamp.site.own b (remembered lamp)) c.best-best.ensures);
      wires = ap Some (told_row lamp heard c.best-best.result c.numbers-numbers.result c.best-best.ensures c.numbers-numbers.ensures c.given-given.result given c.given-given.ensures);
    }
