use Rattle.std.proofs.Common.{rules}
use Rattle.script.proofs.Asked.{too_few, too_many}
use Rattle.script.proofs.orders.set.Goals as goal

pub returns-in_default : goal.returns-in_default
returns-in_default c = search (rules, too_few)

pub returns-in_default-2 : goal.returns-in_default-2
returns-in_default-2 c = search (rules, too_many)
