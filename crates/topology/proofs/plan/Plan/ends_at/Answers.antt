use Rattle.std.proofs.Common.{rules, length, ◌∙◌}
use borrow.Author.Tests.{tests}
use Rattle.std.proofs.lemmas.Iterator.{items_from_collect, YieldsList-from_slice}
use Rattle.std.proofs.lemmas.Iterator.Consumers.{YieldsList-from_filter_map}
use Rattle.std.proofs.lemmas.Result.{IfOk-weaker}
use Rattle.topology.proofs.Kept.{end_if, ends_kept}
use Rattle.topology.proofs.plan.Plan.ends_at.Goals as goal

pub returns : goal.returns
returns c =
    let plan = c.args.self.now in
    let lines = plan.lines.now in
    IfOk-weaker c.collect.result _ _ (λ ends e. e ∙ ends_kept (length plan.names.now) c.args.place lines plan.checked.right)
    (items_from_collect c.collect.result c.collect.ensures.ran (
    YieldsList-from_filter_map _ (end_if c.args.place) (YieldsList-from_slice lines cc) c.filter_map.ensures.closure (λ x r q k. search (rules, tests))
    ))
