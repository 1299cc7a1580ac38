-- The right numbers of each lamp, worked out from the hall alone.
use Rattle.std.specs.Prelude.{ℕ, zero, suc, ◌+◌, Bool, false, cond, ◌||◌, List, [], ◌∷◌, sum_by, filter, ◌==◌, nat_lt}
use Rattle.telling.specs.declared.Telling.{Telling}
use Rattle.protocol.specs.declared.state.Numbers.{Numbers}
use Rattle.protocol.specs.Rules.{telling_with}
use Rattle.model.specs.Halls.{Hall}

-- the place of the lowest name among the first n lamps
unfoldable pub lowest_of : Hall → ℕ → ℕ
lowest_of h zero = 0
lowest_of h (suc n) = cond (nat_lt (h.name n) (h.name (lowest_of h n))) n (lowest_of h n)

-- the root: the lamp with the lowest name
abbrev pub root_of : Hall → ℕ
root_of h = lowest_of h h.count

-- does some place of a list pass a test
unfoldable pub any_of : (ℕ → Bool) → List ℕ → Bool
any_of test [] = false
any_of test (p ∷ ps) = test p || any_of test ps

-- is there a way of at most d wires from the root to lamp i
unfoldable pub is_near : Hall → ℕ → ℕ → Bool
is_near h zero i = i == root_of h
is_near h (suc d) i = is_near h d i || any_of (is_near h d) (h.neighbours i)

-- the least number that passes a test, where one below n does, and else n
unfoldable pub least_of : (ℕ → Bool) → ℕ → ℕ
least_of test zero = zero
least_of test (suc n) = cond (test zero) zero (suc (least_of (λ k. test (suc k)) n))

-- how many wires lamp i is away from the root
unfoldable pub distance_of : Hall → ℕ → ℕ
distance_of h i = least_of (λ d. is_near h d i) h.count

-- the first place of a list that passes a test, or else the given one
unfoldable pub first_that : (ℕ → Bool) → ℕ → List ℕ → ℕ
first_that test other [] = other
first_that test other (p ∷ ps) = cond (test p) p (first_that test other ps)

-- the parent: of the neighbours that are one wire nearer to the root, the one at the lowest place; the root is its own
unfoldable pub parent_of : Hall → ℕ → ℕ
parent_of h i = first_that (λ j. (distance_of h j + 1) == distance_of h i) i (h.neighbours i)

-- the children: those neighbours whose parent lamp i is, by rising place
abbrev pub children_of : Hall → ℕ → List ℕ
children_of h i = filter (λ j. parent_of h j == i) (h.neighbours i)

-- how many lamps the subtree of lamp i has, as far as so many levels below it
unfoldable pub size_within : Hall → ℕ → ℕ → ℕ
size_within h zero i = 1
size_within h (suc levels) i = 1 + sum_by (size_within h levels) (children_of h i)

-- how many it has in all: no tree has more levels than lamps
abbrev pub size_of : Hall → ℕ → ℕ
size_of h i = size_within h h.count i

-- the sizes of the children of lamp i before place j
abbrev pub sizes_before : Hall → ℕ → ℕ → ℕ
sizes_before h i j = sum_by (size_of h) (filter (λ k. nat_lt k j) (children_of h i))

-- the place of lamp i in the walk of the tree from the root, children by rising place, where i is so many levels below the root:
-- behind its parent and the subtrees of its siblings before it
unfoldable pub number_at : Hall → ℕ → ℕ → ℕ
number_at h zero i = 0
number_at h (suc level) i = number_at h level (parent_of h i) + 1 + sizes_before h (parent_of h i) i

-- the number of lamp i
abbrev pub number_of : Hall → ℕ → ℕ
number_of h i = number_at h (distance_of h i) i

-- the right numbers of lamp i
unfoldable pub right_numbers : Hall → ℕ → Numbers
right_numbers h i =
    record {
      best = h.name (root_of h);
      distance = distance_of h i;
      parent = parent_of h i;
      size = size_of h i;
      total = h.count;
      number = number_at h (distance_of h i) i;
    }

-- the right telling of lamp i to lamp j: its right numbers, and to a child the child's number, to any other 0
abbrev pub right_telling : Hall → ℕ → ℕ → Telling
right_telling h i j = telling_with (right_numbers h i) (cond (parent_of h j == i) (number_of h j) 0)
