-- What the order of a round is good for, and that words always stand for some net.
use Rattle.std.specs.Prelude.{ℕ, vec_items}
use Rattle.model.specs.Nets.{Net}
use Rattle.model.specs.Rounds.{Round}
use Rattle.topology.specs.declared.hall.Topology.{Topology}
use Rattle.topology.specs.Reading.{hall_of}
use Rattle.network.specs.declared.state.State.{State}
use Rattle.network.specs.Stands.{Stands}
use Rattle.network.specs.Order.{doings_in, order_of}

-- whatever the seed, what a `round` carries out is a round: all works and all hearings of the hall, and nothing else
abbrev pub RoundsAreRounds : Type 0
RoundsAreRounds = (t : Topology) (seed : ℕ) → Round (hall_of t) (order_of seed (doings_in (vec_items t.sites)))

-- whatever the words are, they stand for a net
abbrev pub WordsStand : Type 0
WordsStand = (t : Topology) (s : State) → (n : Net) × Stands (hall_of t) s n
