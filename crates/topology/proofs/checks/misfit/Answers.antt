use Rattle.std.proofs.Common.{rules, arith, true, false}
use Rattle.std.proofs.lemmas.Grind.{common_steps}
use borrow.Author.Tests.{tests}
use Rattle.std.proofs.lemmas.Iterator.{IsFirst-from_position}
use Rattle.topology.proofs.Pairs.{Pair, YieldsList-from_windows, neighbours_fit}
use Rattle.topology.proofs.checks.misfit.Goals as goal

pub returns : goal.returns
returns c =
    neighbours_fit c.args.lines.now c.position.result (
    IsFirst-from_position _ _ c.position.result (Pair false) (Pair true) c.position.ensures.ran (YieldsList-from_windows _ c.args.lines.now c.windows.ensures.rest c.windows.ensures.size) (λ x q k d l. grind (arith, common_steps)) (λ x q k. (search (rules, tests), λ d l. grind (arith, common_steps)))
    )
