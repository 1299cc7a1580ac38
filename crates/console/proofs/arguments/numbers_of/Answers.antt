use Rattle.std.proofs.Common.{vec_items, string_bytes, sym, ap, ◌∙◌}
use Rattle.text.specs.Decimal.{number_of}
use Rattle.console.proofs.Numbers.{read_more, read_none, read_end}
use Rattle.console.proofs.arguments.numbers_of.Goals as goal

pub returns-in_default : goal.returns-in_default
returns-in_default c =
    sym (read_none string_bytes c.args.words.now c.loop-word.word-index (vec_items c.loop-word.numbers) c.word-item.result c.loop-word-test.true c.word-item.is (sym (c.in_default.ensures ∙ ap number_of c.as_bytes.ensures.value)))
    ∙ c.loop-word.invariant

pub loop-word-preserved : goal.loop-word-preserved
loop-word-preserved c =
    read_more string_bytes c.args.words.now c.loop-word.word-index (vec_items c.loop-word.numbers) _ c.in-Some.n c.word-item.result c.loop-word-test.true c.word-item.is (sym (c.in-Some.ensures ∙ ap number_of c.as_bytes.ensures.value)) c.in_ok-push.ensures.items
    ∙ c.loop-word.invariant

pub returns : goal.returns
returns c =
    sym (read_end string_bytes c.args.words.now c.loop-word.word-index (vec_items c.loop-word.numbers) c.loop-word-test.false)
    ∙ c.loop-word.invariant
