-- One slot, or one lamp's numbers, written: what becomes of the state.
use Rattle.std.proofs.Common.{◌≡◌, ℕ, ◌≤◌, false, length, sym, ap, ◌∙◌, subst}
use Rattle.telling.specs.declared.Telling.{Telling}
use Rattle.telling.specs.declared.frame.Reading.{Reading}
use Rattle.telling.specs.declared.frame.Reading.TheVariants.{Told, Noise}
use Rattle.protocol.specs.declared.state.Numbers.{Numbers}
use Rattle.model.specs.Halls.{Hall, is_wired}
use Rattle.model.specs.Nets.{Net, remembering, laid, noted, after_hearing, hearing}
use Rattle.topology.specs.declared.hall.Topology.{Topology}
use Rattle.topology.specs.Reading.{hall_of}
use Rattle.network.specs.declared.state.State.{State}
use Rattle.network.specs.Words.{telling_in, reading_in, TellingPut, NumbersPut}
use Rattle.network.specs.Slots.{Slot}
use Rattle.network.specs.Stands.{Roomy, Stands, Becomes, LampsStand, WiresStand, MemoriesStand}
use Rattle.network.proofs.Tables.{picks, picks_turned, table_put, table_none, table_again, lamps_put, lamps_none}

-- a change by a value that the net has, where the value was read from the words
module _ {X : Type 0} (h : Hall) (s : State) (change : X → Net → Net) (of : Net → X) where
  pub become_as : (s' : State) (x : X) → ((n : Net) → Stands h s n → x ≡ of n) → Becomes h s s' (change x) → Becomes h s s' (λ n. change (of n) n)
  become_as s' x is becomes = record { room = becomes.room; stands = λ n stands. subst (λ x. Stands h s' (change x n)) (is n stands) (becomes.stands n stands) }

  pub same_as : Roomy h s → ((x : X) → Becomes h s s (change x)) → Becomes h s s (λ n. change (of n) n)
  same_as room becomes = record { room = room; stands = λ n stands. (becomes (of n)).stands n stands }

-- where nothing was written, a change that the words do not show is made all the same
module _ (t : Topology) (s : State) (room : Roomy (hall_of t) s) where
  pub same_memories : (by of : ℕ) (said : Telling) → is_wired (hall_of t) by of ≡ false → Becomes (hall_of t) s s (remembering by of said)
  same_memories by of said none =
      record {
        room = room;
        stands = λ n stands.
            record {
              lamps = stands.lamps;
              wires = stands.wires;
              memories = table_none t by of _ (picks by of) (telling_in s.memories.now) n.heard said none stands.memories;
            };
      }

  pub same_wires : (from to : ℕ) (r : Reading) → is_wired (hall_of t) to from ≡ false → Becomes (hall_of t) s s (laid from to r)
  same_wires from to r none =
      record {
        room = room;
        stands = λ n stands.
            record {
              lamps = stands.lamps;
              wires = table_none t to from _ (picks_turned to from) (reading_in s.wires.now s.noise.now) (λ j i. n.line i j) r none stands.wires;
              memories = stands.memories;
            };
      }

  pub same_lamps : (i : ℕ) (w : Numbers) → (hall_of t).count ≤ i → Becomes (hall_of t) s s (noted i w)
  same_lamps i w past =
      record {
        room = room;
        stands = λ n stands.
            record { lamps = lamps_none (hall_of t) s.lamps.now s.lamps.now n.lamp i w stands.lamps past; wires = stands.wires; memories = stands.memories };
      }

  -- what lies in a slot of wires lies on that wire
  pub line_at : (n : Net) → Stands (hall_of t) s n → (by of slot : ℕ) → Slot (hall_of t) by of slot → reading_in s.wires.now s.noise.now slot ≡ n.line of by
  line_at n stands by of slot there =
      ap (reading_in s.wires.now s.noise.now) there.is ∙ stands.wires by there.wire there.lamp there.there ∙ ap (λ i. n.line i by) there.leads

  -- what lies in a slot of memories is remembered
  pub heard_at : (n : Net) → Stands (hall_of t) s n → (by of slot : ℕ) → Slot (hall_of t) by of slot → telling_in s.memories.now slot ≡ n.heard by of
  heard_at n stands by of slot there =
      ap (telling_in s.memories.now) there.is ∙ stands.memories by there.wire there.lamp there.there ∙ ap (n.heard by) there.leads

  pub heard_none : (by of : ℕ) → is_wired (hall_of t) by of ≡ false → Becomes (hall_of t) s s (hearing by of)
  heard_none by of none =
      record { room = room; stands = λ n stands. (same_memories by of (after_hearing (n.line of by) (n.heard by of)) none).stands n stands }

  pub heard_noise : (by of slot : ℕ) → Slot (hall_of t) by of slot → Noise ≡ reading_in s.wires.now s.noise.now slot → Becomes (hall_of t) s s (hearing by of)
  heard_noise by of slot there noise =
      record {
        room = room;
        stands = λ n stands.
            let same : n.heard by of ≡ after_hearing (n.line of by) (n.heard by of) = ap (λ r. after_hearing r (n.heard by of)) (noise ∙ line_at n stands by of slot there) in
            record {
              lamps = stands.lamps;
              wires = stands.wires;
              memories =
                  subst (λ u. MemoriesStand (hall_of t) s.memories.now (remembering by of u n).heard) same
                  (table_again t by of _ (picks by of) (telling_in s.memories.now) n.heard (n.heard by of) stands.memories);
            };
      }

  pub heard_told :
      (s' : State) (by of slot : ℕ) (said : Telling) → Slot (hall_of t) by of slot → Told said ≡ reading_in s.wires.now s.noise.now slot →
      Becomes (hall_of t) s s' (remembering by of said) → Becomes (hall_of t) s s' (hearing by of)
  heard_told s' by of slot said there told becomes =
      record {
        room = becomes.room;
        stands = λ n stands.
            subst (λ u. Stands (hall_of t) s' (remembering by of u n)) (ap (λ r. after_hearing r (n.heard by of)) (told ∙ line_at n stands by of slot there)) (becomes.stands n stands);
      }

  -- and where one was
  module _ (s' : State) where
    module _ (wires : s'.wires.now ≡ s.wires.now) (noise : s'.noise.now ≡ s.noise.now) (lamps : s'.lamps.now ≡ s.lamps.now) where
      pub other_memories :
          (by of slot : ℕ) (said : Telling) → Slot (hall_of t) by of slot → TellingPut s.memories.now s'.memories.now slot said →
          Becomes (hall_of t) s s' (remembering by of said)
      other_memories by of slot said there put =
          record {
            room =
                record {
                  memories = put.long ∙ room.memories;
                  wires = ap length wires ∙ room.wires;
                  noise = ap length noise ∙ room.noise;
                  lamps = ap length lamps ∙ room.lamps;
                };
            stands = λ n stands.
                record {
                  lamps = subst (λ xs. LampsStand (hall_of t) xs n.lamp) (sym lamps) stands.lamps;
                  wires = subst (λ xs. WiresStand (hall_of t) xs s'.noise.now n.line) (sym wires)
                      (subst (λ xs. WiresStand (hall_of t) s.wires.now xs n.line) (sym noise) stands.wires);
                  memories =
                      table_put t by of _ (picks by of) (telling_in s.memories.now) n.heard said (telling_in s'.memories.now) slot there put.here put.others
                      stands.memories;
                };
          }

    module _ (memories : s'.memories.now ≡ s.memories.now) where
      module _ (lamps : s'.lamps.now ≡ s.lamps.now) (wires : length s'.wires.now ≡ length s.wires.now) (noise : length s'.noise.now ≡ length s.noise.now) where
        pub other_wires :
            (from to slot : ℕ) (r : Reading) → Slot (hall_of t) to from slot → reading_in s'.wires.now s'.noise.now slot ≡ r →
            ((k : ℕ) → (k ≡ slot → ⊥) → reading_in s'.wires.now s'.noise.now k ≡ reading_in s.wires.now s.noise.now k) →
            Becomes (hall_of t) s s' (laid from to r)
        other_wires from to slot r there new others =
            record {
              room =
                  record {
                    memories = ap length memories ∙ room.memories;
                    wires = wires ∙ room.wires;
                    noise = noise ∙ room.noise;
                    lamps = ap length lamps ∙ room.lamps;
                  };
              stands = λ n stands.
                  record {
                    lamps = subst (λ xs. LampsStand (hall_of t) xs n.lamp) (sym lamps) stands.lamps;
                    wires =
                        table_put t to from _ (picks_turned to from) (reading_in s.wires.now s.noise.now) (λ j i. n.line i j) r
                        (reading_in s'.wires.now s'.noise.now) slot there new others stands.wires;
                    memories = subst (λ xs. MemoriesStand (hall_of t) xs n.heard) (sym memories) stands.memories;
                  };
            }

      pub other_lamps :
          s'.wires.now ≡ s.wires.now → s'.noise.now ≡ s.noise.now → (i : ℕ) (w : Numbers) → NumbersPut s.lamps.now s'.lamps.now i w →
          Becomes (hall_of t) s s' (noted i w)
      other_lamps wires noise i w put =
          record {
            room =
                record {
                  memories = ap length memories ∙ room.memories;
                  wires = ap length wires ∙ room.wires;
                  noise = ap length noise ∙ room.noise;
                  lamps = put.long ∙ room.lamps;
                };
            stands = λ n stands.
                record {
                  lamps = lamps_put (hall_of t) s.lamps.now s'.lamps.now n.lamp i w stands.lamps put;
                  wires = subst (λ xs. WiresStand (hall_of t) xs s'.noise.now n.line) (sym wires)
                      (subst (λ xs. WiresStand (hall_of t) s.wires.now xs n.line) (sym noise) stands.wires);
                  memories = subst (λ xs. MemoriesStand (hall_of t) xs n.heard) (sym memories) stands.memories;
                };
          }
