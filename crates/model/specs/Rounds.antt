-- Rounds: lists of doings in which every lamp works and every wire is heard from both ends.
-- `AllByRecursion P xs` says P of each element of a list, and `ContainsAt xs x` that x stands at some place of it.
use Rattle.std.specs.Prelude.{◌≡◌, ℕ, zero, suc, ◌*◌, ◌<◌, true, List, [], ◌∷◌, ◌++◌}
use Rattle.std.specs.List.{ContainsAt, AllByRecursion}
use Rattle.model.specs.declared.Doing.{Doing}
use Rattle.model.specs.declared.Doing.TheVariants.{Work, Hear}
use Rattle.model.specs.Halls.{Hall, is_wired}

-- a doing of this hall: a lamp of it works, or one hears over a wire that there is
abbrev pub Fits : Hall → Doing → Type 0
Fits h (Work i) = i < h.count
Fits h (Hear j i) = (j < h.count) × (is_wired h j i ≡ true)

-- all doings of a list are of this hall
abbrev pub AllFit : Hall → List Doing → Type 0
AllFit h ds = AllByRecursion (Fits h) ds

-- a round: every lamp's work and every wire's hearing from both ends, in any order, as often as one likes, and nothing that is not of this hall
pub record Round (h : Hall) (ds : List Doing) : Type 0 where
  pub fits : AllFit h ds
  pub whole : (d : Doing) → Fits h d → ContainsAt ds d

-- so many rounds, one after the other
unfoldable pub Rounds : Hall → ℕ → List (List Doing) → Type 0
Rounds h zero [] = Unit {0}
Rounds h zero (r ∷ rs) = ⊥
Rounds h (suc n) [] = ⊥
Rounds h (suc n) (r ∷ rs) = Round h r × Rounds h n rs

-- the doings of lists of doings, one after the other
unfoldable pub flat : List (List Doing) → List Doing
flat [] = []
flat (r ∷ rs) = r ++ flat rs

-- so many rounds are enough: 12 for each lamp that the hall may have
abbrev pub enough : Hall → ℕ
enough h = 12 * h.most
