use Rattle.std.proofs.Common.{◌≡◌, ◌<◌, length, get_or, take, sym, ap, ◌∙◌, subst, arith}
use Rattle.std.proofs.lemmas.List.{take_more, take_all}
use Rattle.protocol.specs.Rows.{places_of}
use Rattle.protocol.specs.Rules.{telling_at}
use Rattle.network.specs.Slots.{told_by}
use Rattle.network.specs.Turns.{state_in, Turns}
use Rattle.network.proofs.Turning.{becomes_as_was, stays, stays_then}
use Rattle.network.proofs.Works.{part_told, told_none, told_kth, told_more}
use Rattle.network.proofs.lent.Lent.tell.Goals as goal

pub loop-k-init : goal.loop-k-init
loop-k-init c =
    let l = c.args.self.now in
    record { lent = stays l; becomes = told_none l.hall.now (state_in l) c.args.place (told_by c.args.site.now c.args.work.now) l.roomy }

pub loop-k-preserved : goal.loop-k-preserved
loop-k-preserved c =
    let l = c.args.self.now in
    let before = c.loop-k.invariant in
    let site = c.args.site.now in
    let work = c.args.work.now in
    let k = c.loop-k.k in
    let places = c.places-to-items.result.now in
    let lent : places ≡ places_of site = c.places-to-items.ensures in
    let inside : k < length (places_of site) = omega (arith, ap length lent) in
    let kth = told_kth l.hall.now (state_in l) c.args.place site work c.requires k inside in
    let said = c.telling.ensures ∙ kth ∙ ap (λ ps. telling_at (get_or ps k 0) (told_by site work)) (sym lent) in
    subst (λ ps. Turns l c.lay.new.self (part_told c.args.place ps (told_by site work))) (sym (take_more places k 0 (omega arith)))
    (record {
      lent = stays_then l c.loop-k.self before.lent c.lay.new.self c.lay.ensures.lent;
      becomes =
          told_more l.hall.now (state_in l) (state_in c.loop-k.self) (state_in c.lay.new.self) c.args.place (get_or places k 0) (take k places) c.telling.result (told_by site work) said
          before.becomes (becomes_as_was l c.loop-k.self before.lent (state_in c.loop-k.self) (state_in c.lay.new.self) _ c.lay.ensures.becomes);
    })

pub returns : goal.returns
returns c =
    let places = c.places-to-items.result.now in
    subst (λ ps. Turns c.args.self.now c.loop-k.self (part_told c.args.place ps (told_by c.args.site.now c.args.work.now)))
    (take_all c.loop-k.k places c.loop-k-test.false ∙ c.places-to-items.ensures ∙ sym c.requires.places) c.loop-k.invariant
