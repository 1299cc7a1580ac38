-- What is promised of a whole hall. Each promise is a type; a proof of the type is the theorem.
use Rattle.std.specs.Prelude.{◌≡◌, ℕ, ◌<◌, ◌≤◌, List, ◌++◌}
use Rattle.protocol.specs.declared.state.Numbers.{Numbers}
use Rattle.model.specs.declared.Doing.{Doing}
use Rattle.model.specs.Halls.{Hall, Way, Sound}
use Rattle.model.specs.Nets.{Net, ran}
use Rattle.model.specs.Rounds.{AllFit, Rounds, flat, enough}
use Rattle.model.specs.Assignment.{right_numbers}

-- the lamp at place r has the lowest name
abbrev pub Lowest : Hall → ℕ → Type 0
Lowest h r = (r < h.count) × ((a : ℕ) → a < h.count → h.name r ≤ h.name a)

-- the shortest way from r to a has n wires
abbrev pub Shortest : Hall → ℕ → ℕ → ℕ → Type 0
Shortest h r a n = Way h r a n × ((m : ℕ) → Way h r a m → n ≤ m)

-- numbers of all lamps are right: every lamp has the lowest name, the true distance from its lamp, the number of lamps as total, and a number below that which no other lamp has
pub record Right (h : Hall) (numbers : ℕ → Numbers) : Type 0 where
  pub best : (r a : ℕ) → Lowest h r → a < h.count → (numbers a).best ≡ h.name r
  pub distance : (r a : ℕ) → Lowest h r → a < h.count → Shortest h r a (numbers a).distance
  pub total : (a : ℕ) → a < h.count → (numbers a).total ≡ h.count
  pub number : (a : ℕ) → a < h.count → (numbers a).number < h.count
  pub own : (a b : ℕ) → a < h.count → b < h.count → (numbers a).number ≡ (numbers b).number → a ≡ b

-- what is said of every sound hall, every net, every list of enough rounds one after the other, and every further list of doings of that hall
abbrev pub AfterEnough : (Hall → Net → List Doing → List Doing → Type 0) → Type 0
AfterEnough P =
    (h : Hall) → Sound h → (n : Net) (rounds : List (List Doing)) (more : List Doing) → Rounds h (enough h) rounds → AllFit h more → P h n (flat rounds) more

-- CONVERGENCE. From whatever lamps, wires and memories hold, after enough rounds and any further doings all numbers are right.
abbrev pub ComesRight : Type 0
ComesRight = AfterEnough (λ h n rounds more. Right h (ran h (rounds ++ more) n).lamp)

-- CLOSURE. Every number of every lamp is what it was before the further doings.
abbrev pub StaysSo : Type 0
StaysSo = AfterEnough (λ h n rounds more. (a : ℕ) → a < h.count → (ran h (rounds ++ more) n).lamp a ≡ (ran h rounds n).lamp a)

-- THE STRONGEST FORM. There is one assignment of six numbers to each lamp that depends on the hall alone; after enough rounds and any further doings every lamp has those,
abbrev pub Settles : Type 0
Settles = AfterEnough (λ h n rounds more. (a : ℕ) → a < h.count → (ran h (rounds ++ more) n).lamp a ≡ right_numbers h a)

-- and that assignment is right.
abbrev pub AssignmentRight : Type 0
AssignmentRight = (h : Hall) → Sound h → Right h (right_numbers h)

-- THE PROMISE OF THE WHOLE
pub record Promise : Type 0 where
  pub right : ComesRight
  pub stays : StaysSo
  pub settles : Settles
  pub assignment : AssignmentRight
