use Rattle.std.proofs.Common.{◌+◌, ◌-◌, ◌%◌, sym, ap, ◌∙◌, arith}
use Rattle.std.specs.List.{swap}
use Rattle.network.specs.Sequence.{next_of, draw_at}
use Rattle.network.specs.Order.{shuffled_from}
use Rattle.network.proofs.Lists.{shuffled_step, shuffled_end}
use Rattle.network.proofs.order.shuffle.Goals as goal

pub loop-k-preserved : goal.loop-k-preserved
loop-k-preserved c =
    let k = c.loop-k.k in
    let s = c.loop-k.draws.state in
    ap (shuffled_from (k - 1) c.exchange.new.draws.state) c.exchange.ensures.after
    ∙ ap (λ s'. shuffled_from (k - 1) s' (swap c.loop-k.doings (k - 1) (draw_at (next_of s) % (k - 1 + 1)))) c.exchange.ensures.next
    ∙ sym (shuffled_step k s c.loop-k.doings (omega arith)) ∙ c.loop-k.invariant

pub returns : goal.returns
returns c = sym (shuffled_end c.loop-k.k c.loop-k.draws.state c.loop-k.doings (omega arith)) ∙ c.loop-k.invariant
