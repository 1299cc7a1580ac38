-- Words of a line: what stands between its spaces, one space between two words.
use Rattle.std.specs.Prelude.{◌≡◌, ℕ, ◌-◌, ◌<◌, cond, List, [], ◌∷◌, length, take, Some, None, Option, ◌==◌, ◌≢◌, slice_index}
use Rattle.std.specs.List.{AllByRecursion}

-- what was read up to a line's end: a line feed at the end is not of the line
abbrev pub line_of : List ℕ → List ℕ
line_of read = cond (slice_index read (length read - 1) == 10) (take (length read - 1) read) read

-- the first byte of a kind stands at i
pub record FirstAt (end : ℕ) (bytes : List ℕ) (i : ℕ) : Type 0 where
  pub there : i < length bytes
  pub found : slice_index bytes i ≡ end
  pub first : (k : ℕ) → k < i → slice_index bytes k ≢ end

-- no byte is of a kind
abbrev pub NoneIs : ℕ → List ℕ → Type 0
NoneIs end bytes = (k : ℕ) → k < length bytes → slice_index bytes k ≢ end

-- what stands before the first byte of a kind, or all of it
unfoldable pub up_to : ℕ → List ℕ → List ℕ
up_to end [] = []
up_to end (c ∷ cs) = cond (c == end) [] (c ∷ up_to end cs)

-- what stands behind that byte
unfoldable pub past : ℕ → List ℕ → Option (List ℕ)
past end [] = None
past end (c ∷ cs) = cond (c == end) (Some cs) (past end cs)

-- what stands before the first space, or the whole line
abbrev pub first_word : List ℕ → List ℕ
first_word line = up_to 32 line

-- what stands behind the first space
abbrev pub rest_of : List ℕ → Option (List ℕ)
rest_of line = past 32 line

-- a byte more in front of the first word; a line always has one
abbrev pub on_first : ℕ → List (List ℕ) → List (List ℕ)
on_first c [] = []
on_first c (w ∷ ws) = (c ∷ w) ∷ ws

-- the words of a line: it is cut at each space
unfoldable pub words_of : List ℕ → List (List ℕ)
words_of [] = [] ∷ []
words_of (c ∷ cs) = cond (c == 32) ([] ∷ words_of cs) (on_first c (words_of cs))

-- the words of what stands behind a space, if there is a space
abbrev pub words_behind : Option (List ℕ) → List (List ℕ)
words_behind None = []
words_behind (Some cs) = words_of cs

-- a space and what stands behind it, if there is a space
abbrev pub space_and : Option (List ℕ) → List ℕ
space_and None = []
space_and (Some cs) = 32 ∷ cs

-- a word has no space in it
abbrev pub Spaceless : List ℕ → Type 0
Spaceless word = AllByRecursion (λ c. c ≢ 32) word
