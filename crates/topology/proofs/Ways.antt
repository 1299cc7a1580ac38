-- Ways over wires: joined, turned round, and within the hall.
use Rattle.std.proofs.Common.{◌≡◌, ℕ, zero, suc, ◌<◌, true}
use Rattle.model.specs.Halls.{Hall, Way, stay, step, is_wired, WiresWithin, WiredBothWays}

module _ (h : Hall) where
  -- one wire
  pub wire_way : (a b : ℕ) → is_wired h a b ≡ true → Way h a b 1
  wire_way a b w = step stay w

  pub join_ways : {a b m : ℕ} → Way h a b m → (n : ℕ) {c : ℕ} → Way h b c n → (k : ℕ) × Way h a c k
  join_ways {m = m} v zero stay = (m, v)
  join_ways v (suc n) (step w e) = let j = join_ways v n w in (suc j.0, step j.1 e)

  module _ (within : WiresWithin h) where
    pub way_within : {a : ℕ} → a < h.count → (n : ℕ) {b : ℕ} → Way h a b n → b < h.count
    way_within l zero stay = l
    way_within l (suc n) (step {b} {c} w e) = within b c (way_within l n w, e)

    module _ (both : WiredBothWays h) where
      pub turn_way : {a : ℕ} → a < h.count → (n : ℕ) {b : ℕ} → Way h a b n → (k : ℕ) × Way h b a k
      turn_way {a} l zero stay = (0, stay)
      turn_way l (suc n) (step {b} {c} w e) =
          let t = turn_way l n w in
          join_ways (wire_way c b (both b c (way_within l n w, e))) t.0 t.1
