use Rattle.std.proofs.Common.{◌≡◌, drop}
use Rattle.protocol.specs.Wiring.{rises_from}
use Rattle.protocol.proofs.sites.rises.Given as goal

-- what is left to look at decides
abbrev pub invariant-loop-place : goal.invariant-loop-place
invariant-loop-place l = rises_from l.own 0 l.places ≡ rises_from l.own l.low (drop l.place-index l.places)
