use Rattle.model.specs.declared.Doing.TheVariants.{Work}
use Rattle.network.proofs.Turning.{ran_none_turns, ran_more_turns}
use Rattle.network.proofs.lent.Lent.run.Goals as goal

pub loop-doing-init : goal.loop-doing-init
loop-doing-init c = ran_none_turns c.args.self.now

pub loop-doing-preserved : goal.loop-doing-preserved
loop-doing-preserved c =
    ran_more_turns c.args.self.now c.loop-doing.self c.carry.new.self c.args.doings.now c.loop-doing.doing-index (Work 0) c.loop-doing-test.true c.loop-doing.invariant c.carry.ensures
