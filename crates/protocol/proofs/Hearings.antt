-- What hearing a telling makes of a lamp, by whether the place is wired.
use Rattle.std.proofs.Common.{◌≡◌, ℕ, length, slice_set, Ok, Err, sym, refl, ap, subst}
use Rattle.telling.specs.declared.Telling.{Telling}
use Rattle.telling.specs.declared.frame.Reading.{Reading}
use Rattle.telling.specs.declared.frame.Reading.TheVariants.{Told, Noise}
use Rattle.telling.specs.declared.refusal.Refusal.TheVariants.{NoWire}
use Rattle.telling.specs.Readings.{told_of}
use Rattle.protocol.specs.declared.state.Lamp.{Lamp}
use Rattle.protocol.specs.Rows.{NoWireTo, Wire}
use Rattle.protocol.specs.Hearing.{hearing_of, Heard}
use Rattle.protocol.proofs.Wires.{wire_there, wire_missing, replaced_there, replaced_missing}

-- only a telling is told
pub is_told : (r : Reading) (t : Telling) → told_of r ≡ Ok t → r ≡ Told t
is_told (Told u) t e = cc
is_told Noise t e = absurd cc

-- one that is told from a place that is wired is remembered there
pub heard_there :
    (r : Reading) (l : Lamp) (place k : ℕ) (t : Telling) → told_of r ≡ Ok t → length l.heard ≡ 16 → Wire l.site place k →
    Heard r place l (record { site = l.site; heard = slice_set l.heard k t; last = l.last }) (Ok tt)
heard_there r l place k t told full wire =
    let after : Lamp = record { site = l.site; heard = slice_set l.heard k t; last = l.last } in
    subst (λ x. Heard x place l after (Ok tt)) (sym (is_told r t told)) (record {
      site = refl;
      last = refl;
      row = sym (replaced_there l.site place k wire l.heard full t);
      refused = ap (hearing_of (Told t)) (sym (wire_there l.site place k wire));
      same = tt;
    })

-- and from any other place it is refused
pub heard_nowhere : (r : Reading) (l : Lamp) (place : ℕ) (t : Telling) → told_of r ≡ Ok t → NoWireTo l.site place → Heard r place l l (Err NoWire)
heard_nowhere r l place t told none =
    subst (λ x. Heard x place l l (Err NoWire)) (sym (is_told r t told)) (record {
      site = refl;
      last = refl;
      row = sym (replaced_missing l.site place none l.heard t);
      refused = ap (hearing_of (Told t)) (sym (wire_missing l.site place none));
      same = refl;
    })
