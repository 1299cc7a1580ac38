use Rattle.std.proofs.Common.{vec_items, true-eqb}
use Rattle.text.specs.Words.{words_of}
use Rattle.script.proofs.Cuts.{read_more, read_end}
use Rattle.script.proofs.lines.each_line.Goals as goal

pub loop-rest-preserved : goal.loop-rest-preserved
loop-rest-preserved g c =
    read_more (λ line. g.T.Said.by (words_of line)) (vec_items c.loop-rest.all) c.loop-rest.rest.now c.loop-rest.invariant _
    c.next_line.ensures.lines c.said.ensures c.in_ok-push.ensures.items

pub returns : goal.returns
returns g c =
    read_end (λ line. g.T.Said.by (words_of line)) (vec_items c.loop-rest.all) c.loop-rest.rest.now c.loop-rest.invariant
    (true-eqb _ 0 c.loop-rest-test.ensures)
