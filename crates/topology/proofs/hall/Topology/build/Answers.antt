use Rattle.std.proofs.Common.{sym, subst, arith}
use Rattle.std.proofs.lemmas.Option.{MatchOption-at_some}
use Rattle.topology.specs.Checks.{Stands}
use Rattle.topology.proofs.Described.{breaks_joined, when_joined, described_within, described_both, stands_some, stands_few, stands_placed, stands_of_most, stands_described, stands_differ}
use Rattle.topology.proofs.hall.Topology.build.Goals as goal

pub hang_together-requires : goal.hang_together-requires
hang_together-requires c =
    let plan = c.args.plan.now in
    let made = MatchOption-at_some _ _ c.in-Some.sites c.in-Some.is c.in_ok-sites.ensures in
    let lent = subst (Stands plan.most plan.names.now plan.lines.now) (sym c.as_slice.ensures.value) made in
    let described = stands_described plan.checked lent in
    record { some = stands_some plan.checked lent; within = described_within described; both = described_both described }

pub returns-then-not-branch : goal.returns-then-not-branch
returns-then-not-branch c =
    let plan = c.args.plan.now in
    let made = MatchOption-at_some _ _ c.in-Some.sites c.in-Some.is c.in_ok-sites.ensures in
    breaks_joined c.as_slice.ensures.value c.in_ok-hang_together.ensures plan.most (stands_described plan.checked made) c.if-not-branch.true

pub invariant_of-result : goal.invariant_of-result
invariant_of-result c =
    let plan = c.args.plan.now in
    let made = MatchOption-at_some _ _ c.in-Some.sites c.in-Some.is c.in_ok-sites.ensures in
    let described = stands_described plan.checked made in
    let long = c.in-Some.sites.ok.0 in
    record {
      placed = stands_placed plan.checked made;
      bounded = stands_of_most plan.checked made;
      some = omega (arith, long, stands_some plan.checked made);
      few = omega (arith, long, stands_few plan.checked made);
      names = stands_differ plan.checked made;
      within = described_within described;
      both = described_both described;
      joined = when_joined c.as_slice.ensures.value c.in_ok-hang_together.ensures plan.most c.if-not-branch.false;
    }

pub returns : goal.returns
returns c = let plan = c.args.plan.now in stands_described plan.checked (MatchOption-at_some _ _ c.in-Some.sites c.in-Some.is c.in_ok-sites.ensures)
