-- A net: what the lamps of a hall have worked out, what lies on their wires and what they remember, all of it anything at all; and what one doing makes of it.
use Rattle.std.specs.Prelude.{ℕ, cond, ◌&&◌, List, [], ◌∷◌, map, ◌==◌}
use Rattle.telling.specs.declared.Telling.{Telling}
use Rattle.telling.specs.declared.frame.Reading.{Reading}
use Rattle.telling.specs.declared.frame.Reading.TheVariants.{Told, Noise}
use Rattle.protocol.specs.declared.state.Numbers.{Numbers}
use Rattle.protocol.specs.Rows.{Neighbour}
use Rattle.protocol.specs.Rules.{worked, tells, telling_at}
use Rattle.model.specs.declared.Doing.{Doing}
use Rattle.model.specs.declared.Doing.TheVariants.{Work, Hear}
use Rattle.model.specs.Halls.{Hall, own_of, is_wired}

-- lamp i: the numbers that lamp i worked out last; line i j: what lies on the wire from i to j, a telling or noise; heard j i: what lamp j last heard of i
pub record Net : Type 0 where
  pub lamp : ℕ → Numbers
  pub line : ℕ → ℕ → Reading
  pub heard : ℕ → ℕ → Telling

-- a lamp's neighbours by rising place, each with what the lamp remembers of it
abbrev pub row_in : Hall → Net → ℕ → List Neighbour
row_in h n i = map (λ j. record { place = j; telling = n.heard i j }) (h.neighbours i)

-- the same, of any memory of lamp i
abbrev pub row_from : Hall → ℕ → (ℕ → Telling) → List Neighbour
row_from h i heard = map (λ j. record { place = j; telling = heard j }) (h.neighbours i)

-- a net in which lamp i has worked these numbers out, and all else is as it was
abbrev pub noted : ℕ → Numbers → Net → Net
noted i w n = record { lamp = λ k. cond (k == i) w (n.lamp k); line = n.line; heard = n.heard }

-- a net in which this lies on the wire from i to j, and all else is as it was
abbrev pub laid : ℕ → ℕ → Reading → Net → Net
laid i j r n = record { lamp = n.lamp; line = λ k l. cond (k == i && l == j) r (n.line k l); heard = n.heard }

-- a net in which lamp j remembers this of i, and all else is as it was
abbrev pub remembering : ℕ → ℕ → Telling → Net → Net
remembering j i t n = record { lamp = n.lamp; line = n.line; heard = λ k l. cond (k == j && l == i) t (n.heard k l) }

-- a net in which lamp i has put on each of its wires what it tells there, and all else is as it was
abbrev pub telling : Hall → ℕ → List Neighbour → Net → Net
telling h i told n = record { lamp = n.lamp; line = λ k l. cond (k == i && is_wired h i l) (Told (telling_at l told)) (n.line k l); heard = n.heard }

-- lamp i works: its numbers, and the tellings on all its wires, are the rules' of what it remembers
abbrev pub working : Hall → ℕ → Net → Net
working h i n = noted i (worked (own_of h i) (row_in h n i)) (telling h i (tells (own_of h i) (row_in h n i)) n)

-- what a lamp remembers after hearing what lies on a wire: noise changes nothing
abbrev pub after_hearing : Reading → Telling → Telling
after_hearing (Told t) before = t
after_hearing Noise before = before

-- lamp j hears what lies on the wire from i
abbrev pub hearing : ℕ → ℕ → Net → Net
hearing j i n = remembering j i (after_hearing (n.line i j) (n.heard j i)) n

-- a net after one doing, and after many
unfoldable pub did : Hall → Doing → Net → Net
did h (Work i) n = working h i n
did h (Hear j i) n = hearing j i n

unfoldable pub ran : Hall → List Doing → Net → Net
ran h [] n = n
ran h (d ∷ ds) n = ran h ds (did h d n)
