-- A telling as a list of words: its seven numbers in their order.
use Rattle.std.specs.Prelude.{ℕ, List, [], ◌∷◌, slice_index}
use Rattle.telling.specs.declared.Telling.{Telling}

abbrev pub words_of_telling : Telling → List ℕ
words_of_telling t = t.best ∷ t.distance ∷ t.parent ∷ t.size ∷ t.total ∷ t.number ∷ t.given ∷ []

abbrev pub telling_of_words : List ℕ → Telling
telling_of_words words =
    record {
      best = slice_index words 0;
      distance = slice_index words 1;
      parent = slice_index words 2;
      size = slice_index words 3;
      total = slice_index words 4;
      number = slice_index words 5;
      given = slice_index words 6;
    }
