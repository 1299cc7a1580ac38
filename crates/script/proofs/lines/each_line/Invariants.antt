use Rattle.std.proofs.Common.{◌≡◌, ◌++◌, map, length, vec_items}
use Rattle.text.specs.Words.{words_of}
use Rattle.script.specs.Lines.{lines_of}
use Rattle.script.proofs.lines.each_line.Given as goal

-- what the lines so far say, and what those that are left say, make the whole
abbrev pub invariant-loop-rest : goal.invariant-loop-rest
invariant-loop-rest g l =
    vec_items l.all ++ map (λ line. g.T.Said.by (words_of line)) (lines_of l.rest) ≡ map (λ line. g.T.Said.by (words_of line)) (lines_of l.text)

abbrev pub decreases-loop-rest : goal.decreases-loop-rest
decreases-loop-rest g l = length l.rest
