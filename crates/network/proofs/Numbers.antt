-- Numbers drawn one by one, and a number set among words.
use Rattle.std.proofs.Common.{◌≡◌, ℕ, suc, ◌+◌, ◌<◌, List, [], ◌∷◌, ◌++◌, length, take, set, refl, ap, ◌∙◌, add-one}
use Rattle.std.proofs.Math.Seq.{take-suc-set}
use Rattle.telling.specs.declared.Telling.{Telling}
use Rattle.telling.specs.Words.{words_of_telling, telling_of_words}
use Rattle.protocol.specs.declared.state.Numbers.{Numbers}
use Rattle.protocol.specs.Words.{words_of_numbers, numbers_of_words}
use Rattle.network.specs.declared.commands.Field.{Field}
use Rattle.network.specs.declared.commands.Field.TheVariants.{Best, Distance, Parent, Size, Total, Number, Given}
use Rattle.network.specs.Sequence.{number_from, after, numbers_drawn, telling_from, numbers_from}
use Rattle.network.specs.Effects.{with_field, with_number, place_of, or_zeros}
use Rattle.std.specs.Result.{result_unwrap_or}
use Rattle.telling.specs.declared.frame.Reading.{Reading}
use Rattle.telling.specs.declared.frame.Reading.TheVariants.{Told, Noise}
use Rattle.telling.specs.Readings.{told_of}
use Rattle.protocol.specs.Rules.{nothing}

module _ (s r x : ℕ) (xs : List ℕ) (k : ℕ) (inside : k < length xs) where
  one_more : take k xs ≡ numbers_drawn k s → r ≡ after k s → x ≡ number_from r → take (suc k) (set xs k x) ≡ numbers_drawn (suc k) s
  unfolding numbers_drawn
  one_more so_far state drawn =
      take-suc-set xs k x inside ∙ ap (λ ys. ys ++ x ∷ []) so_far ∙ ap (λ y. numbers_drawn k s ++ y ∷ []) (drawn ∙ ap number_from state)

  pub drawn_more : take k xs ≡ numbers_drawn k s → r ≡ after k s → x ≡ number_from r → take (k + 1) (set xs k x) ≡ numbers_drawn (k + 1) s
  drawn_more so_far state drawn = rw add-one (one_more so_far state drawn)

pub after_more : (s r r' k : ℕ) → r ≡ after k s → r' ≡ after 1 r → r' ≡ after (k + 1) s
after_more s r r' k state next = rw add-one (next ∙ ap (after 1) state)

pub drawn_none : (s : ℕ) → [] ≡ numbers_drawn 0 s
unfolding numbers_drawn
drawn_none s = refl

pub telling_drawn : (s : ℕ) (words : List ℕ) (t : Telling) → words ≡ numbers_drawn 7 s → t ≡ telling_of_words words → t ≡ telling_from s
unfolding numbers_drawn telling_from
telling_drawn s words t e f = f ∙ ap telling_of_words e

pub numbers_of_drawn : (s : ℕ) (words : List ℕ) (w : Numbers) → words ≡ numbers_drawn 6 s → w ≡ numbers_of_words words → w ≡ numbers_from s
unfolding numbers_drawn numbers_from
numbers_of_drawn s words w e f = f ∙ ap numbers_of_words e

with_place : (f : Field) (n : ℕ) (t : Telling) → telling_of_words (set (words_of_telling t) (place_of f) n) ≡ with_field f n t
with_place Best n t = refl
with_place Distance n t = refl
with_place Parent n t = refl
with_place Size n t = refl
with_place Total n t = refl
with_place Number n t = refl
with_place Given n t = refl

number_place : (f : Field) (n : ℕ) (w : Numbers) → numbers_of_words (set (words_of_numbers w) (place_of f) n) ≡ with_number f n w
number_place Best n w = refl
number_place Distance n w = refl
number_place Parent n w = refl
number_place Size n w = refl
number_place Total n w = refl
number_place Number n w = refl
number_place Given n w = refl

pub telling_set :
    (f : Field) (n : ℕ) (t u : Telling) (before after : List ℕ) → before ≡ words_of_telling t → after ≡ set before (place_of f) n → u ≡ telling_of_words after →
    u ≡ with_field f n t
telling_set f n t u before after is put read = read ∙ ap telling_of_words (put ∙ ap (λ ws. set ws (place_of f) n) is) ∙ with_place f n t

pub numbers_set :
    (f : Field) (n : ℕ) (w v : Numbers) (before after : List ℕ) → before ≡ words_of_numbers w → after ≡ set before (place_of f) n → v ≡ numbers_of_words after →
    v ≡ with_number f n w
numbers_set f n w v before after is put read = read ∙ ap numbers_of_words (put ∙ ap (λ ws. set ws (place_of f) n) is) ∙ number_place f n w

-- where noise was read, zeros are taken
pub told_or_zeros : (r : Reading) → result_unwrap_or (told_of r) nothing ≡ or_zeros r
told_or_zeros (Told t) = refl
told_or_zeros Noise = refl
