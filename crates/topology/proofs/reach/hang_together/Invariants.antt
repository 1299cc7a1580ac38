use Rattle.std.proofs.Common.{◌≡◌, ℕ, true, length}
use Rattle.topology.specs.Lamps.{hall_in}
use Rattle.topology.specs.Reach.{is_reached, Reachable, unreached}
use Rattle.topology.proofs.reach.hang_together.Given as goal

-- the first lamp is reached, and no lamp that cannot be
abbrev pub invariant-loop : goal.invariant-loop
invariant-loop l =
    record {
      full : length l.reached ≡ length l.sites;
      first : is_reached l.reached 0 ≡ true;
      ways : (most : ℕ) → Reachable (hall_in most l.sites) l.reached;
    }

abbrev pub decreases-loop : goal.decreases-loop
decreases-loop l = unreached l.reached
