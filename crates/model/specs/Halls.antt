-- A hall: its lamps and its wires. Nothing here ever changes while lamps work and hear.
use Rattle.std.specs.Prelude.{◌≡◌, ℕ, zero, suc, ◌<◌, ◌≤◌, Bool, true, List}
use Rattle.protocol.specs.declared.facts.Own.{Own}
use Rattle.protocol.specs.Rows.{has_wire}
use Rattle.protocol.specs.Wiring.{is_sound}

-- the lamps hang at the places 0 to count - 1; most: as many lamps as the hall may have; neighbours: the places that each lamp is wired to, by rising place
pub record Hall : Type 0 where
  pub count : ℕ
  pub most : ℕ
  pub name : ℕ → ℕ
  pub neighbours : ℕ → List ℕ

-- what the lamp at a place knows of itself
abbrev pub own_of : Hall → ℕ → Own
own_of h i = record { most = h.most; place = i; name = h.name i }

-- is the lamp at place i wired to place j
abbrev pub is_wired : Hall → ℕ → ℕ → Bool
is_wired h i j = has_wire (h.neighbours i) j

-- a way of n wires from the lamp at place a
pub data Way (h : Hall) (a : ℕ) : ℕ → ℕ → Type 0 where
  stay : Way h a a zero
  step : {b c n : ℕ} → Way h a b n → is_wired h b c ≡ true → Way h a c (suc n)

-- no two lamps have one name
abbrev pub NamesDiffer : Hall → Type 0
NamesDiffer h = (a b : ℕ) → (a < h.count) × (b < h.count) × (h.name a ≡ h.name b) → a ≡ b

-- each lamp's own numbers and wires are as a lamp asks: `most` at most 1,024, and at most 16 wires, by rising place, none to itself
abbrev pub SitesSound : Hall → Type 0
SitesSound h = (a : ℕ) → a < h.count → is_sound (own_of h a) (h.neighbours a) ≡ true

-- wires lead to lamps
abbrev pub WiresWithin : Hall → Type 0
WiresWithin h = (a b : ℕ) → (a < h.count) × (is_wired h a b ≡ true) → b < h.count

-- and they are wired both ways
abbrev pub WiredBothWays : Hall → Type 0
WiredBothWays h = (a b : ℕ) → (a < h.count) × (is_wired h a b ≡ true) → is_wired h b a ≡ true

-- from each lamp there is a way to each other one: it cannot be that there is none
abbrev pub HangTogether : Hall → Type 0
HangTogether h = (a b : ℕ) → (a < h.count) × (b < h.count) × ((n : ℕ) → Way h a b n → ⊥) → ⊥

-- what has to be right of a hall of 1 to `most` lamps
pub record Sound (h : Hall) : Type 0 where
  pub some : 1 ≤ h.count
  pub few : h.count ≤ h.most
  pub names : NamesDiffer h
  pub sites : SitesSound h
  pub within : WiresWithin h
  pub both : WiredBothWays h
  pub joined : HangTogether h
