use Rattle.std.proofs.Common.{◌≡◌, fold, length}
use Rattle.places.specs.Places.{with_place, rising_of, RiseFrom}
use Rattle.places.proofs.rising.Given as goal

-- the places so far rise, and with those that are left they become what all become
abbrev pub invariant-loop-left : goal.invariant-loop-left
invariant-loop-left l = RiseFrom 0 l.places.items × (fold with_place l.places.items l.left ≡ rising_of l.fn.named)

abbrev pub decreases-loop-left : goal.decreases-loop-left
decreases-loop-left l = length l.left
