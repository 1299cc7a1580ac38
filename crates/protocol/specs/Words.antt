-- A lamp's numbers as a list of words: all six in their order.
use Rattle.std.specs.Prelude.{ℕ, List, [], ◌∷◌, slice_index}
use Rattle.protocol.specs.declared.state.Numbers.{Numbers}

abbrev pub words_of_numbers : Numbers → List ℕ
words_of_numbers w = w.best ∷ w.distance ∷ w.parent ∷ w.size ∷ w.total ∷ w.number ∷ []

abbrev pub numbers_of_words : List ℕ → Numbers
numbers_of_words words =
    record {
      best = slice_index words 0;
      distance = slice_index words 1;
      parent = slice_index words 2;
      size = slice_index words 3;
      total = slice_index words 4;
      number = slice_index words 5;
    }
