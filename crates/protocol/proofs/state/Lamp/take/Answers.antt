use Rattle.std.proofs.Common.{◌≡◌, length, Ok, rules}
use Rattle.telling.specs.Readings.{told_of}
use Rattle.protocol.specs.Rows.{NoWireTo, Wire}
use Rattle.protocol.proofs.Hearings.{heard_there, heard_nowhere}
use Rattle.protocol.proofs.state.Lamp.take.Goals as goal

pub returns-in_err-k : goal.returns-in_err-k
returns-in_err-k c =
    let lamp = c.args.self.now in
    let told : told_of c.args.reading ≡ Ok c.in_ok-said.said = search rules in
    let none : NoWireTo lamp.site c.args.from = search rules in
    let heard = heard_nowhere c.args.reading lamp c.args.from c.in_ok-said.said told none in
    search rules

pub returns : goal.returns
returns c =
    let lamp = c.args.self.now in
    let told : told_of c.args.reading ≡ Ok c.in_ok-said.said = search rules in
    let full : length lamp.heard ≡ 16 = search rules in
    let wire : Wire lamp.site c.args.from c.in_ok-k.k = search rules in
    heard_there c.args.reading lamp c.args.from c.in_ok-k.k c.in_ok-said.said told full wire
