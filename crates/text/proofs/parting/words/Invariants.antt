use Rattle.std.proofs.Common.{◌≡◌, ◌++◌, map, take}
use Rattle.std.specs.Option.{option_map}
use Rattle.text.specs.Words.{words_of, words_behind}
use Rattle.text.proofs.parting.words.Given as goal

-- the words so far, and those of what is left, make the whole
abbrev pub invariant-loop-i : goal.invariant-loop-i
invariant-loop-i l = map (λ w. w.now) (take l.i l.room) ++ words_behind (option_map (λ x. x.now) l.rest) ≡ words_of l.fn.line
