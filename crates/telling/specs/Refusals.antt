-- The numbers of the refusals.
use Rattle.std.specs.Prelude.{ℕ}
use Rattle.telling.specs.declared.refusal.Refusal.{Refusal}
use Rattle.telling.specs.declared.refusal.Refusal.TheVariants.{Unreadable, NoWire, Memory, Input}

-- 1: a frame that cannot be read; 2: no wire to that place; 3: a memory of another size; 4: bad arguments, or a line that is not of the format
abbrev pub refusal_number : Refusal → ℕ
refusal_number Unreadable = 1
refusal_number NoWire = 2
refusal_number Memory = 3
refusal_number Input = 4
