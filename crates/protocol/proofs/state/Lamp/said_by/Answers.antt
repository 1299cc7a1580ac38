use Rattle.std.proofs.Common.{◌≡◌, length, sym, rules}
use Rattle.protocol.proofs.Wires.{said_there, said_missing}
use Rattle.protocol.proofs.state.Lamp.said_by.Goals as goal

pub returns-in-Some : goal.returns-in-Some
returns-in-Some c =
    let heard : length c.args.self.now.heard ≡ 16 = search rules in
    sym (said_there c.args.self.now.site c.args.place c.in-Some.k c.in-Some.ensures c.args.self.now.heard heard)

pub returns-in-None : goal.returns-in-None
returns-in-None c = sym (said_missing c.args.self.now.site c.args.place c.in-None.ensures c.args.self.now.heard)
