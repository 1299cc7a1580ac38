use Rattle.protocol.specs.Memories.{Holds}
use Rattle.protocol.proofs.state.Lamp.store.Given as goal

abbrev pub invariant-loop-k : goal.invariant-loop-k
invariant-loop-k l = Holds l.memory l.self.heard l.k
