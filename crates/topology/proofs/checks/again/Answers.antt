use Rattle.std.proofs.Common.{rules, true, false}
use borrow.Author.Tests.{tests}
use Rattle.std.proofs.lemmas.Iterator.{IsFirst-from_position, YieldsList-from_slice}
use Rattle.std.proofs.lemmas.Iterator.Consumers.{YieldsList-from_enumerate}
use Rattle.topology.proofs.Names.{Before, names_apart}
use Rattle.topology.proofs.checks.again.Goals as goal

pub returns : goal.returns
returns c =
    let names = c.args.names.now in
    names_apart names c.position.result (
    IsFirst-from_position _ _ c.position.result (Before names true) (Before names false) c.position.ensures.ran
    (YieldsList-from_enumerate (YieldsList-from_slice names cc) cc)
    (λ x q k. search (rules, tests)) (λ x q k. (search (rules, tests), search (rules, tests)))
    )
