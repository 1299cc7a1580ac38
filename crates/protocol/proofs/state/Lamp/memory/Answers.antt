-- A memory made of the right size is not refused, and what was lent comes back whole.
use Rattle.std.proofs.Common.{◌≡◌, ◌*◌, true, ◌++◌, length, take, drop, Ok, vec_len, ap, ◌∙◌, subst, arith, MatchResult}
use Rattle.std.proofs.lemmas.List.{take_at}
use Rattle.std.proofs.lemmas.Bool.{eq-eqb, cond-true}
use Rattle.telling.specs.Layout.{part_of}
use Rattle.protocol.specs.Memories.{is_memory, Holds}
use Rattle.protocol.proofs.state.Lamp.memory.Goals as goal

pub returns : goal.returns
returns c =
    let lamp = c.args.self.now in
    let wires = lamp.site.wires in
    let vec = c.in_ok-memory.memory in
    let after = c.store.new.memory in
    let sized : vec_len vec ≡ 28 * wires = c.in_ok-memory.ensures.len in
    let lent : length c.as_mut_slice.result.now ≡ 28 * wires = c.as_mut_slice.ensures.len ∙ sized in
    let long : length after ≡ 28 * wires = omega (arith, c.store.auto.memory) in
    let whole : take vec.len (after ++ drop (length after) vec.items) ≡ after = take_at after _ vec.len (omega arith) in
    let right : is_memory wires c.as_mut_slice.result.now ≡ true = eq-eqb _ _ lent in
    let done : c.store.result ≡ Ok tt = c.store.ensures.refusal ∙ cond-true _ _ _ right in
    let holds : Holds after lamp.heard wires = subst (λ o. MatchResult o (λ _. Holds after lamp.heard wires) (λ _. after ≡ c.as_mut_slice.result.now)) done c.store.ensures.after in
    (ap length whole ∙ long, λ k h. ap (λ m. part_of m k) whole ∙ holds k h)
