use Rattle.std.proofs.Common.{sym, refl, ◌∙◌, rules}
use Rattle.network.specs.Turns.{state_in}
use Rattle.network.proofs.Answering.{carried}
use Rattle.network.proofs.state.State.carry_out.Goals as goal

pub returns-in_ok-apply : goal.returns-in_ok-apply
returns-in_ok-apply c =
    let roomy = sym c.is_roomy.ensures ∙ c.if-not-is_roomy.false in
    carried c.args.hall.now c.args.self.now _ (state_in c.apply.new.self) _ (record { memories = refl; wires = refl; noise = refl; lamps = refl })
    (record { memories = search rules; wires = search rules; noise = search rules; lamps = search rules }) c.args.command c.refusal_of-answer.result roomy
    c.refusal_of-answer.ensures (sym c.is_ok.ensures.value ∙ c.if-is_ok.true) c.in_ok-apply.ensures.ok.becomes
