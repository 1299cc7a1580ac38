-- Lines of a script, by how many words they have.
use Rattle.std.proofs.Common.{◌≡◌, ℕ, ◌<◌, ◌≤◌, false, List, [], ◌∷◌, map, length, get_or, take, codes, refl, arith}
use Rattle.std.specs.Borrow.{Bor}
use Rattle.std.specs.Str.{bytes_eq}
use Rattle.std.proofs.lemmas.Bool.{cond-false}
use Rattle.text.proofs.Matches.{by_letters}
use Rattle.network.specs.declared.commands.Command.TheVariants.{Unknown}
use Rattle.script.specs.Orders.{command_by}

-- fewer than four words behind `set`, and more than five
pub too_few : (ws : List (Bor (List ℕ))) → length ws < 4 → command_by (codes "set" ∷ map (λ w. w.now) ws) ≡ Unknown
too_few [] l = refl
too_few (a ∷ []) l = grind arith
too_few (a ∷ b ∷ []) l = grind arith
too_few (a ∷ b ∷ c ∷ []) l = refl
too_few (a ∷ b ∷ c ∷ d ∷ ws) l = absurd (omega arith)

pub too_many : (ws : List (Bor (List ℕ))) → 6 ≤ length ws → command_by (codes "set" ∷ map (λ w. w.now) ws) ≡ Unknown
too_many [] l = absurd (omega arith)
too_many (a ∷ []) l = absurd (omega arith)
too_many (a ∷ b ∷ []) l = absurd (omega arith)
too_many (a ∷ b ∷ c ∷ []) l = absurd (omega arith)
too_many (a ∷ b ∷ c ∷ d ∷ []) l = absurd (omega arith)
too_many (a ∷ b ∷ c ∷ d ∷ e ∷ []) l = absurd (omega arith)
too_many (a ∷ b ∷ c ∷ d ∷ e ∷ f ∷ ws) l = refl

-- four words and more, of which the first is not as long as `set`
pub not_set :
    (ws : List (Bor (List ℕ))) → 4 ≤ length ws → (length (get_or ws 0 record { ref_ptr = (0, 0); now = [] }).now ≡ 3 → ⊥) →
    command_by (map (λ w. w.now) ws) ≡ Unknown
not_set [] l ne = absurd (omega arith)
not_set (a ∷ []) l ne = absurd (omega arith)
not_set (a ∷ b ∷ []) l ne = absurd (omega arith)
not_set (a ∷ b ∷ c ∷ []) l ne = absurd (omega arith)
not_set (a ∷ b ∷ c ∷ d ∷ ws) l ne = let no : bytes_eq a.now (codes "set") ≡ false = grind (arith, by_letters) in cond-false _ _ _ no

-- seven words are enough to see what a line asks for
pub first_seven : (words : List (List ℕ)) → command_by (take 7 words) ≡ command_by words
first_seven [] = refl
first_seven (a ∷ []) = refl
first_seven (a ∷ b ∷ []) = refl
first_seven (a ∷ b ∷ c ∷ []) = refl
first_seven (a ∷ b ∷ c ∷ d ∷ []) = refl
first_seven (a ∷ b ∷ c ∷ d ∷ e ∷ []) = refl
first_seven (a ∷ b ∷ c ∷ d ∷ e ∷ f ∷ []) = refl
first_seven (a ∷ b ∷ c ∷ d ∷ e ∷ f ∷ g ∷ words) = refl
