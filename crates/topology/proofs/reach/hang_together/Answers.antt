use Rattle.std.proofs.Common.{◌≡◌, true, false, length, set, replicate, sym, ap, ◌∙◌, subst, rules}
use borrow.Author.Tests.{tests}
use Rattle.std.proofs.lemmas.Iterator.{cases_from_all, YieldsList-from_slice}
use Rattle.std.proofs.lemmas.List.{length-set, length-replicate}
use Rattle.topology.specs.Lamps.{hall_in}
use Rattle.topology.specs.Reach.{is_reached, Reachable}
use Rattle.topology.proofs.Spreads.{begun, begun_first, whether_joined}
use Rattle.topology.proofs.reach.hang_together.Goals as goal

pub loop-init : goal.loop-init
loop-init c =
    let sites = c.args.sites.now in
    let none : replicate (length sites) false ≡ c.as_mut_slice-reached.result.now = search rules in
    let first = ap (λ xs. set xs 0 true) none in
    record {
      full = length-set c.as_mut_slice-reached.result.now 0 true ∙ ap length (sym none) ∙ length-replicate (length sites) false;
      first = subst (λ xs. is_reached xs 0 ≡ true) first (begun_first sites c.requires.some);
      ways = λ most. subst (Reachable (hall_in most sites)) first (begun sites c.requires.some most);
    }

pub returns : goal.returns
returns c =
    let pass = c.spread.ensures in
    let before = c.loop.invariant in
    let reached = c.spread.new.reached in
    whether_joined c.args.sites.now c.requires.some c.requires.within c.requires.both reached
    (pass.long ∙ before.full) (pass.kept 0 before.first) (λ most. pass.ways most c.requires.both (before.ways most))
    (pass.settled c.loop-test.false).1 c.all.result (
    cases_from_all _ _ c.all.result (λ on. on ≡ true) (λ on. on ≡ false) c.all.ensures.ran (YieldsList-from_slice reached cc)
    (λ x q k. search (rules, tests)) (λ x q k. search (rules, tests))
    )
