use Rattle.text.proofs.Cuts.{told}
use Rattle.text.proofs.cut.Goals as goal

pub returns : goal.returns
returns c =
    let t = told c.args.line.now _ _ c.cut_at.ensures.before c.cut_at.ensures.behind in
    record { word = c.cut_at.ensures.before; rest = c.cut_at.ensures.behind; words = t.0; whole = t.1; spaceless = t.2 }
