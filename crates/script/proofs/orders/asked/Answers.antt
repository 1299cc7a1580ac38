use Rattle.std.proofs.Common.{rules}
use Rattle.script.proofs.Asked.{not_set}
use Rattle.script.proofs.orders.asked.Goals as goal

pub returns-in_default-2 : goal.returns-in_default-2
returns-in_default-2 c = search (rules, not_set)

pub returns-in_default-6 : goal.returns-in_default-6
returns-in_default-6 c = search (rules, not_set)
