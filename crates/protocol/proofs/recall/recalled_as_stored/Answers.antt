use Rattle.std.proofs.Common.{get_or, sym, ap, ◌∙◌}
use Rattle.std.proofs.lemmas.Bool.{cond-true}
use Rattle.telling.specs.Layout.{telling_of}
use Rattle.telling.proofs.Words.{telling_back}
use Rattle.protocol.specs.Rules.{nothing}
use Rattle.protocol.proofs.recall.recalled_as_stored.Goals as goal

pub returns : goal.returns
returns c = λ memory heard n right fits holds k h.
    sym (cond-true _ _ _ right ∙ ap telling_of (holds k h) ∙ telling_back (get_or heard k nothing) (fits k h))
