use Rattle.std.proofs.Common.{sym, ◌∙◌, arith, true-eqb, false-eqb}
use Rattle.text.proofs.Numbers.{number_empty, number_start, number_end, number_more, number_none}
use Rattle.text.proofs.number.Goals as goal

pub returns-then-is_empty : goal.returns-then-is_empty
returns-then-is_empty c = sym (number_empty c.args.word.now (true-eqb _ 0 c.if-is_empty.ensures))

pub loop-b-init : goal.loop-b-init
loop-b-init c =
    (omega arith, sym (number_start c.args.word.now (omega (arith, false-eqb _ 0 c.if-is_empty.ensures))))

pub returns-in_err-read : goal.returns-in_err-read
returns-in_err-read c =
    let none = number_none _ c.args.word.now c.loop-b.b-index c.loop-b-test.true (sym c.in_err-read.ensures) in
    c.from_residual.ensures ∙ sym none ∙ c.loop-b.invariant.1

pub loop-b-preserved : goal.loop-b-preserved
loop-b-preserved c =
    let more = number_more c.loop-b.read c.args.word.now c.loop-b.b-index c.in_ok-read.read c.loop-b-test.true (sym c.in_ok-read.ensures) in
    (more.0, more.1 ∙ c.loop-b.invariant.1)

pub returns : goal.returns
returns c =
    let end = number_end _ c.args.word.now c.loop-b.b-index c.loop-b-test.false c.loop-b.invariant.0 in
    sym end ∙ c.loop-b.invariant.1
