use Rattle.std.proofs.Common.{ap, ◌∙◌}
use Rattle.text.specs.Words.{words_of}
use Rattle.script.specs.Orders.{command_by}
use Rattle.script.proofs.Asked.{first_seven}
use Rattle.script.proofs.orders.CommandSaid.said.Goals as goal

pub returns : goal.returns
returns c = c.unwrap_or.ensures ∙ c.asked.ensures ∙ ap command_by c.words.ensures ∙ first_seven (words_of c.args.line.now)
