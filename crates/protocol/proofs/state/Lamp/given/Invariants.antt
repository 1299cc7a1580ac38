use Rattle.std.proofs.Common.{◌≡◌, ◌+◌, min, length, take}
use Rattle.protocol.specs.Rows.{remembered}
use Rattle.protocol.specs.Rules.{sizes}
use Rattle.protocol.specs.Works.{Gives}
use Rattle.protocol.proofs.state.Lamp.given.Given as goal

-- the next number to give is behind all children so far, and those have theirs
abbrev pub invariant-loop-k : goal.invariant-loop-k
invariant-loop-k l =
    (l.next ≡ min l.self.site.own.most (l.number + 1 + sizes l.self.site.own.place l.best (take l.k (remembered l.self)))) ×
    Gives l.self l.best l.number l.given l.k × (length l.given ≡ 16)
