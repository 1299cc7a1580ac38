use Rattle.std.proofs.Common.{◌≡◌, ◌⊎◌, length, fold, ap, sym, ◌∙◌, rules}
use Rattle.protocol.specs.Rows.{row_of}
use Rattle.protocol.specs.Rules.{compared}
use Rattle.protocol.proofs.Rows.{fold-row, row_ended}
use Rattle.protocol.proofs.state.Lamp.best.Goals as goal

pub loop-place-preserved : goal.loop-place-preserved
loop-place-preserved c =
    let step = compared c.args.self.now.site.own.most in
    let rest = row_of c.next.new.self.a.rest.now c.next.new.self.b.rest.now in
    let next = fold-row step c.loop-place.best c.in-Some.place.now c.in-Some.said.now c.in-Some.ensures.steps.0 c.in-Some.ensures.steps.1 in
    ap (λ b. fold step b rest) c.compared-best.ensures ∙ sym next ∙ c.loop-place.invariant

pub returns : goal.returns
returns c =
    let rest = c.loop-place.place-iterator in
    let ended : (length rest.a.rest.now ≡ 0) ⊎ (length rest.b.rest.now ≡ 0) = search rules in
    ap (fold (compared c.args.self.now.site.own.most) c.loop-place.best) (sym (row_ended rest.a.rest.now rest.b.rest.now ended)) ∙ c.loop-place.invariant
