use Rattle.std.proofs.Common.{ap, ◌∙◌, subst, rules}
use Rattle.model.specs.Nets.{ran}
use Rattle.topology.specs.Reading.{hall_of}
use Rattle.network.specs.Order.{doings_in, order_of}
use Rattle.network.specs.Turns.{Turns}
use Rattle.network.specs.Effects.{all_filled, effect_of}
use Rattle.network.proofs.lent.Lent.apply.Goals as goal

pub returns-in-SetMemory-clause-ok : goal.returns-in-SetMemory-clause-ok
unfolding effect_of
returns-in-SetMemory-clause-ok c = rw c.in-SetMemory.is c.set_memory.ensures

pub returns-in-SetWire-clause-ok : goal.returns-in-SetWire-clause-ok
unfolding effect_of
returns-in-SetWire-clause-ok c = rw c.in-SetWire.is c.set_wire.ensures

pub returns-in-SetNoise-clause-ok : goal.returns-in-SetNoise-clause-ok
unfolding effect_of
returns-in-SetNoise-clause-ok c = rw c.in-SetNoise.is c.lay.ensures

pub returns-in-SetLamp-clause-ok : goal.returns-in-SetLamp-clause-ok
unfolding effect_of
returns-in-SetLamp-clause-ok c = rw c.in-SetLamp.is c.set_lamp.ensures

pub returns-in-Do-clause-ok : goal.returns-in-Do-clause-ok
unfolding effect_of
returns-in-Do-clause-ok c = rw c.in-Do.is c.carry.ensures

pub returns-in_ok-doings-in-Fill-clause-ok : goal.returns-in_ok-doings-in-Fill-clause-ok
unfolding effect_of
returns-in_ok-doings-in-Fill-clause-ok c =
    let all = c.as_slice.ensures.value ∙ c.in_ok-doings-in-Fill.ensures ∙ ap doings_in c.sites.ensures in
    rw c.in-Fill.is (subst (λ doings. Turns c.args.self.now c.fill.new.self (all_filled doings c.in-Fill.seed)) all c.fill.ensures)

pub returns-in_ok-doings-in-Round-clause-ok : goal.returns-in_ok-doings-in-Round-clause-ok
unfolding effect_of
returns-in_ok-doings-in-Round-clause-ok c =
    let all = c.as_mut_slice.ensures.value ∙ c.in_ok-doings-in-Round.ensures ∙ ap doings_in c.sites-in-Round.ensures in
    rw c.in-Round.is (subst (λ doings. Turns c.args.self.now c.round.new.self (ran (hall_of c.args.self.now.hall.now) (order_of c.in-Round.seed doings))) all c.round.ensures)

pub returns-in-Show : goal.returns-in-Show
unfolding effect_of
returns-in-Show c = search rules
