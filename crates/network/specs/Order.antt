-- All doings of a hall, and the order in which a round carries them out.
use Rattle.std.specs.Prelude.{ℕ, zero, suc, ◌%◌, List, ◌++◌, map, length}
use Rattle.std.specs.List.{swap, flat_map}
use Rattle.protocol.specs.declared.facts.Site.{Site}
use Rattle.protocol.specs.Rows.{places_of}
use Rattle.model.specs.declared.Doing.{Doing}
use Rattle.model.specs.declared.Doing.TheVariants.{Work, Hear}
use Rattle.network.specs.Sequence.{next_of, draw_at}

-- the hearings of one lamp, by rising place of whom it hears
abbrev pub hearings_of : Site → List Doing
hearings_of s = map (Hear s.own.place) (places_of s)

-- all works by rising place, then all hearings by rising place of the one who hears, then of the one heard
abbrev pub doings_in : List Site → List Doing
doings_in sites = map (λ s. Work s.own.place) sites ++ flat_map hearings_of sites

-- each entry from index k - 1 down to the first is exchanged with the one at a draw modulo how many there are up to it
unfoldable pub shuffled_from : ℕ → ℕ → List Doing → List Doing
shuffled_from zero s ds = ds
shuffled_from (suc k) s ds = shuffled_from k (next_of s) (swap ds k (draw_at (next_of s) % suc k))

-- the order that a seed gives
abbrev pub order_of : ℕ → List Doing → List Doing
order_of seed ds = shuffled_from (length ds) seed ds
