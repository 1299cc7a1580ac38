-- The k-th call loads the k-th part, and the memory has one for each wire.
use Rattle.std.proofs.Common.{◌≡◌, ◌/◌, true, nat_lt, length, arith, rules}
use Rattle.std.proofs.lemmas.Bool.{lt-ltb, eq-eqb}
use Rattle.protocol.specs.Memories.{is_memory}
use Rattle.protocol.proofs.state.Lamp.recall.Goals as goal

pub returns-clause-heard : goal.returns-clause-heard
returns-clause-heard c = λ k h.
    let memory = c.args.memory.now in
    let wires = c.args.self.site.wires in
    let has : nat_lt k (length memory / 28) ≡ true = lt-ltb _ _ (omega (arith, c.if-memory-self.false, h)) in
    let right : is_memory wires memory ≡ true = eq-eqb _ _ c.if-memory-self.false in
    let call = c.by_wire-self.ensures.wires k h in
    search rules
