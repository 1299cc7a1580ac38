use Rattle.std.proofs.Common.{◌<◌, length, sym, ◌∙◌, refl, arith, length-set, rules}
use Rattle.network.specs.Turns.{state_in}
use Rattle.network.proofs.Tables.{reading_told, reading_others, reading_noise, reading_else}
use Rattle.network.proofs.Overwrites.{telling_put}
use Rattle.network.proofs.Changes.{same_wires, other_wires}
use Rattle.network.proofs.lent.Lent.lay.Goals as goal

pub returns-in-Told : goal.returns-in-Told
returns-in-Told c =
    let l = c.args.self.now in
    let noise = l.noise.now in
    let inside : c.in-Some.slot < length noise = omega (arith, l.roomy.noise, c.in-Some.ensures.below) in
    let put = telling_put l.wires.now c.put.new.words c.in-Some.slot c.in-Told.said c.into.result c.into.ensures c.put.ensures in
    record {
      lent = search rules;
      becomes =
          other_wires l.hall.now (state_in l) l.roomy _ refl refl c.put.ensures.long (length-set noise _ _) c.args.from c.args.to c.in-Some.slot c.args.reading c.in-Some.ensures.found
          (reading_told l.wires.now c.put.new.words noise c.in-Some.slot inside c.in-Told.said put ∙ sym c.in-Told.is)
          (λ r ne. reading_others l.wires.now c.put.new.words noise c.in-Some.slot inside c.in-Told.said r ne put);
    }

pub returns-in-Noise : goal.returns-in-Noise
returns-in-Noise c =
    let l = c.args.self.now in
    let noise = l.noise.now in
    let inside : c.in-Some.slot < length noise = omega (arith, l.roomy.noise, c.in-Some.ensures.below) in
    record {
      lent = search rules;
      becomes =
          other_wires l.hall.now (state_in l) l.roomy _ refl refl refl (length-set noise _ _) c.args.from c.args.to c.in-Some.slot c.args.reading c.in-Some.ensures.found
          (reading_noise l.wires.now l.wires.now noise c.in-Some.slot inside ∙ sym c.in-Noise.is)
          (reading_else l.wires.now l.wires.now noise c.in-Some.slot inside);
    }

pub returns-in_default : goal.returns-in_default
returns-in_default c =
    let l = c.args.self.now in
    record { lent = search rules; becomes = same_wires l.hall.now (state_in l) l.roomy c.args.from c.args.to c.args.reading c.in_default.ensures.found }
