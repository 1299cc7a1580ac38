use Rattle.std.proofs.Common.{◌≡◌, ℕ, ◌<◌, ◌≤◌, length, get_or}
use Rattle.protocol.specs.Rules.{nothing}
use Rattle.protocol.proofs.facts.Site.by_wire.Given as goal

-- so far each wire has what the function gave for it, and the others have nothing yet
abbrev pub invariant-loop-k : goal.invariant-loop-k
invariant-loop-k g l = record {
  wires : (j : ℕ) → j < l.k → goal.F-post g l.of j (get_or l.all j nothing);
  behind : (j : ℕ) → l.k ≤ j → get_or l.all j nothing ≡ nothing;
  full : length l.all ≡ 16;
}
