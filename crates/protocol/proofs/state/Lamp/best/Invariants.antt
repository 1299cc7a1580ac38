use Rattle.std.proofs.Common.{◌≡◌, fold}
use Rattle.protocol.specs.Rows.{row_of, remembered}
use Rattle.protocol.specs.Rules.{best_of, compared}
use Rattle.protocol.proofs.state.Lamp.best.Given as goal

-- the best so far, taken through the neighbours that are left, is the best of all
abbrev pub invariant-loop-place : goal.invariant-loop-place
invariant-loop-place l =
    fold (compared l.self.site.own.most) l.best (row_of l.place-iterator.a.rest.now l.place-iterator.b.rest.now) ≡ best_of l.self.site.own (remembered l.self)
