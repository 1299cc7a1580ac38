use Rattle.std.proofs.Common.{◌≡◌, ◌+◌, ◌*◌, ◌<◌, length, arith, rules}
use Rattle.protocol.specs.Memories.{Recalls}
use Rattle.protocol.specs.Rows.{places_of}
use Rattle.protocol.proofs.Rows.{length-places_of}
use Rattle.topology.specs.Reading.{hall_of}
use Rattle.network.specs.Words.{telling_in}
use Rattle.network.specs.Slots.{told_by}
use Rattle.network.specs.Turns.{state_in}
use Rattle.network.proofs.Turning.{becomes_as_was, stays_then}
use Rattle.network.proofs.Works.{row_stands, work_is, worked_there, worked_none}
use Rattle.network.proofs.lent.Lent.work.Goals as goal

pub returns-in_default : goal.returns-in_default
returns-in_default c =
    let l = c.args.self.now in
    record { lent = search rules; becomes = worked_none l.hall.now (state_in l) l.roomy c.args.place c.in_default.ensures }

pub returns-in-Some-worked : goal.returns-in-Some-worked
returns-in-Some-worked c =
    let l = c.args.self.now in
    let t = l.hall.now in
    let i = c.args.place in
    let site = c.in-Some.site in
    let at = c.in-Some.ensures in
    let work = c.in-Some-worked.work in
    let heard = c.by_wire-heard.result in
    let memories = l.memories.now in
    let long : length heard ≡ 16 = search rules in
    let recalls : Recalls (λ k. telling_in memories (16 * i + k)) heard (length (places_of site)) =
    λ k h.
    let inside : k < site.wires = omega (arith, h, length-places_of site) in
    let call = c.by_wire-heard.ensures.wires k inside in
    search rules in
    let told = c.tell.ensures in
    let noted = c.note.ensures in
    record {
      lent = stays_then l c.tell.new.self told.lent c.note.new.self noted.lent;
      becomes =
          worked_there t (state_in l) (state_in c.tell.new.self) (state_in c.note.new.self) i (told_by site work) work.numbers told.becomes
          (becomes_as_was l c.tell.new.self told.lent (state_in c.tell.new.self) (state_in c.note.new.self) _ noted.becomes)
          (λ n stands.
          work_is (hall_of t) i site heard c.remembering.result c.work.result work _ at c.remembering.ensures c.work.ensures c.in-Some-worked.ensures
          (row_stands (hall_of t) i site memories heard n at long recalls stands.memories));
    }
