use Rattle.std.proofs.Common.{◌≡◌, ◌++◌, map, take, vec_items}
use Rattle.model.specs.declared.Doing.TheVariants.{Hear}
use Rattle.protocol.specs.Rows.{places_of}
use Rattle.network.proofs.order.push_hearings.Given as goal

abbrev pub invariant-loop-of : goal.invariant-loop-of
invariant-loop-of l = vec_items l.doings ≡ vec_items l.initial.doings ++ map (Hear l.by) (take l.of-index (places_of l.site))
