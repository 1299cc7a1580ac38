-- What a lamp works out and tells, from what it remembers of its neighbours, whatever that is.
-- A row is a lamp's neighbours by rising place. `fold f a row` takes `a` through the row by `f`, from the first neighbour on;
-- `sum_by f row` adds up `f` of each; `filter test row` has those that pass the test.
use Rattle.std.specs.Prelude.{ℕ, ◌+◌, min, Bool, cond, ◌&&◌, ◌||◌, List, [], ◌∷◌, map, fold, sum_by, filter, ◌==◌, nat_lt}
use Rattle.telling.specs.declared.Telling.{Telling}
use Rattle.protocol.specs.declared.facts.Own.{Own}
use Rattle.protocol.specs.declared.state.Numbers.{Numbers}
use Rattle.protocol.specs.declared.work.Best.{Best}
use Rattle.protocol.specs.Rows.{Neighbour}

-- a distance, one wire further
abbrev pub further : ℕ → ℕ
further d = d + 1

-- a told name is taken in place of the best so far: it is near enough, and lower, or the same and nearer
abbrev pub is_better : ℕ → Telling → Best → Bool
is_better most t b =
    nat_lt (further t.distance) most &&
    (nat_lt t.best b.name || (t.best == b.name && nat_lt (further t.distance) b.distance))

-- the best so far, or what a neighbour said where that is better
unfoldable pub compared : ℕ → Best → Neighbour → Best
compared most b n = cond (is_better most n.telling b) (record { name = n.telling.best; distance = further n.telling.distance; parent = n.place }) b

-- a lamp begins with its own name, at distance 0, as its own parent
abbrev pub beginning : Own → Best
beginning own = record { name = own.name; distance = 0; parent = own.place }

-- and goes through its neighbours, by rising place
abbrev pub best_of : Own → List Neighbour → Best
best_of own row = fold (compared own.most) (beginning own) row

-- a neighbour is a child: it was heard to have this lamp as parent, this lamp's best as best, and the distance one more
abbrev pub is_child : ℕ → Best → Telling → Bool
is_child place b t = t.parent == place && t.best == b.name && t.distance == further b.distance

-- the size that a child told, and 0 for any other neighbour
abbrev pub child_size : ℕ → Best → Telling → ℕ
child_size place b t = cond (is_child place b t) t.size 0

-- the sizes of all children among some neighbours
abbrev pub sizes : ℕ → Best → List Neighbour → ℕ
sizes place b row = sum_by (λ n. child_size place b n.telling) row

-- the lamp itself and its children's sizes
abbrev pub size_of : Own → Best → List Neighbour → ℕ
size_of own b row = min own.most (1 + sizes own.place b row)

-- zeros, where nothing was said
abbrev pub nothing : Telling
nothing = record { best = 0; distance = 0; parent = 0; size = 0; total = 0; number = 0; given = 0 }

-- what the neighbour at a place said
unfoldable pub telling_at : ℕ → List Neighbour → Telling
telling_at place [] = nothing
telling_at place (n ∷ ns) = cond (n.place == place) n.telling (telling_at place ns)

-- a lamp that is its own parent has its size as total and the number 0; any other what its parent told, and gave it
abbrev pub numbers_of : Own → Best → List Neighbour → Numbers
numbers_of own b row =
    record {
      best = b.name;
      distance = b.distance;
      parent = b.parent;
      size = size_of own b row;
      total = cond (b.parent == own.place) (size_of own b row) (min own.most (telling_at b.parent row).total);
      number = cond (b.parent == own.place) 0 (min own.most (telling_at b.parent row).given);
    }

-- the six numbers that a lamp works out
abbrev pub worked : Own → List Neighbour → Numbers
worked own row = numbers_of own (best_of own row) row

-- siblings are numbered by rising place
abbrev pub is_before : Neighbour → Neighbour → Bool
is_before m n = nat_lt m.place n.place

-- the number given to a neighbour: to a child the own number, one more, and the sizes of the children before it; to any other 0
abbrev pub given_to : Own → Best → ℕ → List Neighbour → Neighbour → ℕ
given_to own b number row n =
    cond (is_child own.place b n.telling) (min own.most (number + 1 + sizes own.place b (filter (λ m. is_before m n) row))) 0

-- the telling of six numbers and a number given
abbrev pub telling_with : Numbers → ℕ → Telling
telling_with w given =
    record { best = w.best; distance = w.distance; parent = w.parent; size = w.size; total = w.total; number = w.number; given = given }

-- what a lamp tells a neighbour
abbrev pub told_to : Own → List Neighbour → Neighbour → Telling
told_to own row n = telling_with (worked own row) (given_to own (best_of own row) (worked own row).number row n)

-- what a lamp puts on its wires: to each neighbour, by rising place, its telling
abbrev pub tells : Own → List Neighbour → List Neighbour
tells own row = map (λ n. record { place = n.place; telling = told_to own row n }) row
