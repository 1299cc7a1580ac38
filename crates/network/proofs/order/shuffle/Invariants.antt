use Rattle.std.proofs.Common.{◌≡◌}
use Rattle.network.specs.Order.{shuffled_from, order_of}
use Rattle.network.proofs.order.shuffle.Given as goal

-- what is left to exchange gives the order
abbrev pub invariant-loop-k : goal.invariant-loop-k
invariant-loop-k l = shuffled_from l.k l.draws.state l.doings ≡ order_of l.seed l.initial.doings
