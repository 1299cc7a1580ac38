use Rattle.std.proofs.Common.{◌≡◌, ◌++◌, map, take, vec_items}
use Rattle.std.specs.List.{flat_map}
use Rattle.model.specs.declared.Doing.TheVariants.{Work}
use Rattle.network.specs.Order.{hearings_of}
use Rattle.network.proofs.order.all_doings.Given as goal

abbrev pub invariant-loop-site : goal.invariant-loop-site
invariant-loop-site l = vec_items l.doings ≡ map (λ s. Work s.own.place) l.sites ++ flat_map hearings_of (take l.site-index l.sites)
