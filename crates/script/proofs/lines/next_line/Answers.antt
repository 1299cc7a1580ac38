use Rattle.std.proofs.Common.{◌≡◌, ◌<◌, ◌∷◌, [], length, unwrap_or, sym, subst, ap, ◌∙◌}
use Rattle.text.specs.Words.{past}
use Rattle.script.specs.Lines.{lines_of}
use Rattle.script.proofs.Cuts.{lines_behind, first_line, lines_left, left_shorter, now_left}
use Rattle.script.proofs.lines.next_line.Goals as goal

pub returns : goal.returns
returns c =
    let text = c.args.text.now in
    let left : c.unwrap_or.result.now ≡ unwrap_or (past 10 text) [] =
    ap (λ r. r.now) c.unwrap_or.ensures ∙ now_left c.cut_at.result.1 _ ∙ ap (λ o. unwrap_or o []) c.cut_at.ensures.behind in
    record {
      lines =
          first_line text c.requires ∙ ap (λ line. line ∷ lines_behind (past 10 text)) (sym c.cut_at.ensures.before) ∙
          ap (λ lines. c.cut_at.result.0.now ∷ lines) (lines_left (past 10 text) ∙ ap lines_of (sym left));
      shorter = subst (λ rest. length rest < length text) (sym left) (left_shorter 10 text c.requires);
    }
