-- What has to be right of a lamp's own numbers and wires.
use Rattle.std.specs.Prelude.{ℕ, ◌+◌, Bool, true, not, ◌&&◌, List, [], ◌∷◌, length, ◌==◌, nat_le, nat_lt}
use Rattle.protocol.specs.declared.facts.Own.{Own}

-- a place from `low` on, below `most`, and not the lamp's own
abbrev pub may_wire : Own → ℕ → ℕ → Bool
may_wire own low p = nat_le low p && nat_lt p own.most && not (p == own.place)

-- such places, each higher than the one before
unfoldable pub rises_from : Own → ℕ → List ℕ → Bool
rises_from own low [] = true
rises_from own low (p ∷ ps) = may_wire own low p && rises_from own (p + 1) ps

-- 1 to 1,024 lamps at most, a place below that, and at most 16 wires, to rising places below it, none to itself
abbrev pub is_sound : Own → List ℕ → Bool
is_sound own places = nat_le 1 own.most && nat_le own.most 1024 && nat_lt own.place own.most && nat_le (length places) 16 && rises_from own 0 places
