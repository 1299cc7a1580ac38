-- The stages by which a hall comes right: what is then true of all that lamps tell each other.
use Rattle.std.specs.Prelude.{◌≡◌, ℕ, suc, ◌*◌, ◌<◌, ◌≤◌, Bool, true, ◌⊎◌, List}
use Rattle.telling.specs.declared.Telling.{Telling}
use Rattle.telling.specs.declared.frame.Reading.TheVariants.{Told}
use Rattle.protocol.specs.Rules.{tells, telling_at}
use Rattle.model.specs.declared.Doing.{Doing}
use Rattle.model.specs.declared.Doing.TheVariants.{Hear}
use Rattle.model.specs.Halls.{Hall, Way, Sound, own_of, is_wired}
use Rattle.model.specs.Nets.{Net, row_from, ran}
use Rattle.model.specs.Rounds.{Fits, Rounds, flat}
use Rattle.model.specs.Assignment.{right_numbers, right_telling}
use Rattle.model.specs.Promise.{Lowest, Shortest}

-- what lamp i tells lamp j, where it works from what it remembers of each neighbour
abbrev pub told_from : Hall → ℕ → (ℕ → Telling) → ℕ → Telling
told_from h i heard j = telling_at j (tells (own_of h i) (row_from h i heard))

-- a claim about what lamp i tells lamp j is true throughout a net: of all that is remembered, and of all that can be read on a wire
pub record Throughout (h : Hall) (claim : ℕ → ℕ → Telling → Type 0) (n : Net) : Type 0 where
  pub memories : (j i : ℕ) → Fits h (Hear j i) → claim i j (n.heard j i)
  pub wires : (j i : ℕ) → Fits h (Hear j i) → (t : Telling) → n.line i j ≡ Told t → claim i j t

-- a lamp of which every neighbour told what the first claim says tells every neighbour what the second says
abbrev pub LeadsTo : Hall → (ℕ → ℕ → Telling → Type 0) → (ℕ → ℕ → Telling → Type 0) → Type 0
LeadsTo h claim next =
    (i : ℕ) (heard : ℕ → Telling) → i < h.count → ((j : ℕ) → is_wired h i j ≡ true → claim j i (heard j)) →
    (j : ℕ) → is_wired h i j ≡ true → next i j (told_from h i heard j)

-- what is said of every sound hall, every net, and the net after every list of so many rounds
abbrev pub AfterRounds : (Hall → ℕ) → (Hall → Net → Type 0) → Type 0
AfterRounds many P = (h : Hall) → Sound h → (n : Net) (rounds : List (List Doing)) → Rounds h (many h) rounds → P h (ran h (flat rounds) n)

-- a test's claim: the telling passes it
abbrev pub Passing : (ℕ → ℕ → Telling → Bool) → ℕ → ℕ → Telling → Type 0
Passing test i j t = test i j t ≡ true

-- THE LADDER. Take tests of tellings, each of which asks no less than the one before, and such that one work from tellings that pass one makes tellings that pass the next.
-- Then two rounds lead from each to the next: after 2 k rounds all tellings throughout the net pass the k-th, whatever the order of doings, and whatever noise lay on wires.
abbrev pub Ladder : Type 0
Ladder =
    (h : Hall) → Sound h → (test : ℕ → ℕ → ℕ → Telling → Bool) →
    ((k i j : ℕ) (t : Telling) → Passing (test (suc k)) i j t → Passing (test k) i j t) →
    ((k : ℕ) → LeadsTo h (Passing (test k)) (Passing (test (suc k)))) →
    (k : ℕ) (n : Net) (rounds : List (List Doing)) → Rounds h (2 * k) rounds → Throughout h (Passing (test 0)) n →
    Throughout h (Passing (test k)) (ran h (flat rounds) n)

-- a telling of lamp i that is not stale: a lamp has that name, and a way of no more wires than were told leads from it to i
pub record Fresh (h : Hall) (i : ℕ) (t : Telling) : Type 0 where
  pub lamp : ℕ
  pub there : lamp < h.count
  pub name : h.name lamp ≡ t.best
  pub wires : ℕ
  pub way : Way h lamp i wires
  pub near : wires ≤ t.distance

-- not stale, or told as at least k wires off
abbrev pub FreshOrFar : Hall → ℕ → ℕ → ℕ → Telling → Type 0
FreshOrFar h k i j t = Fresh h i t ⊎ (k ≤ t.distance)

-- STALE INFORMATION EXPIRES. After 2 k rounds whatever is stale, the name of no lamp or a name at less than its true distance, is told as at least k wires off.
abbrev pub StaleExpires : Type 0
StaleExpires = (k : ℕ) → AfterRounds (λ _. 2 * k) (λ h n. Throughout h (FreshOrFar h k) n)

-- THE LOWEST NAME ARRIVES. After 4 rounds for each lamp that there may be every lamp has the lowest name, along a shortest way.
abbrev pub LowestArrives : Type 0
LowestArrives =
    AfterRounds (λ h. 4 * h.most) (λ h n. (r a : ℕ) → Lowest h r → a < h.count → ((n.lamp a).best ≡ h.name r) × Shortest h r a (n.lamp a).distance)

-- SIZES, TOTALS AND NUMBERS FOLLOW. After 8 rounds for each lamp that there may be all tellings and all numbers are the right ones.
pub record AllRight (h : Hall) (n : Net) : Type 0 where
  pub tellings : Throughout h (λ i j t. t ≡ right_telling h i j) n
  pub lamps : (a : ℕ) → a < h.count → n.lamp a ≡ right_numbers h a

abbrev pub NumbersFollow : Type 0
NumbersFollow = AfterRounds (λ h. 8 * h.most) AllRight
