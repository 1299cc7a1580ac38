use Rattle.std.proofs.Common.{rules, false, ◌∙◌, ap}
use borrow.Author.Tests.{tests}
use Rattle.std.proofs.lemmas.Option.{unwrap_or-slice_get}
use Rattle.std.proofs.lemmas.Iterator.{YieldsList-from_slice}
use Rattle.std.proofs.lemmas.Iterator.Search.{any_from_yields_List}
use Rattle.model.specs.Assignment.{any_of}
use Rattle.topology.specs.Reach.{is_reached}
use Rattle.topology.proofs.Spreads.{any_is}
use Rattle.topology.proofs.reach.touches.Goals as goal

pub returns : goal.returns
returns c =
    any_from_yields_List (is_reached c.args.reached.now) _ _ _ c.any.ensures.ran (YieldsList-from_slice c.places.result.now cc)
    (λ x b q k. let e = unwrap_or-slice_get c.args.reached.now x.now false in search (rules, tests))
    ∙ any_is (is_reached c.args.reached.now) c.places.result.now
    ∙ ap (any_of (is_reached c.args.reached.now)) c.places.ensures
