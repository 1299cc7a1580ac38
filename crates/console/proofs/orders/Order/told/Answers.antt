use Rattle.std.proofs.Common.{arith}
use Rattle.text.proofs.Matches.{by_letters, two_words, three_words}
use Rattle.console.proofs.orders.Order.told.Goals as goal

pub returns-in-len2 : goal.returns-in-len2
returns-in-len2 c = grind (arith, two_words, by_letters)

pub returns-in_ok-bytes_of-in-Some : goal.returns-in_ok-bytes_of-in-Some
returns-in_ok-bytes_of-in-Some c = grind (arith, three_words, by_letters)

pub returns-in-len3 : goal.returns-in-len3
returns-in-len3 c = grind (arith, three_words, by_letters)
