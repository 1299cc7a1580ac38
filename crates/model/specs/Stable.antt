-- Nets in which nothing changes any more.
use Rattle.std.specs.Prelude.{◌≡◌, ℕ, ◌<◌, ◌++◌}
use Rattle.telling.specs.declared.frame.Reading.TheVariants.{Told}
use Rattle.protocol.specs.Rules.{worked}
use Rattle.model.specs.declared.Doing.{Doing}
use Rattle.model.specs.declared.Doing.TheVariants.{Hear}
use Rattle.model.specs.Halls.{Hall, Sound, own_of}
use Rattle.model.specs.Nets.{Net, row_in, did, ran}
use Rattle.model.specs.Rounds.{Fits}
use Rattle.model.specs.Assignment.{right_numbers}
use Rattle.model.specs.Promise.{Right, AfterEnough}
use Rattle.model.specs.Stages.{told_from}

-- everything is as it would be if everybody had just worked and heard
pub record Stable (h : Hall) (n : Net) : Type 0 where
  pub lamps : (i : ℕ) → i < h.count → n.lamp i ≡ worked (own_of h i) (row_in h n i)
  pub wires : (j i : ℕ) → Fits h (Hear j i) → n.line i j ≡ Told (told_from h i (n.heard i) j)
  pub memories : (j i : ℕ) → Fits h (Hear j i) → n.heard j i ≡ told_from h i (n.heard i) j

-- a stable net has the right numbers, and no doing changes anything of it
pub record Rests (h : Hall) (n : Net) : Type 0 where
  pub right : Right h n.lamp
  pub numbers : (a : ℕ) → a < h.count → n.lamp a ≡ right_numbers h a
  pub stays : (d : Doing) → Fits h d → did h d n ≡ n

abbrev pub StableRests : Type 0
StableRests = (h : Hall) → Sound h → (n : Net) → Stable h n → Rests h n

-- every sound hall has a stable net,
abbrev pub StableExists : Type 0
StableExists = (h : Hall) → Sound h → (n : Net) × Stable h n

-- and from every net, after enough rounds and any further doings, the net is stable
abbrev pub BecomesStable : Type 0
BecomesStable = AfterEnough (λ h n rounds more. Stable h (ran h (rounds ++ more) n))
