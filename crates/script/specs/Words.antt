-- What words write together.
use Rattle.std.specs.Prelude.{Some, None, Option}

-- two together, where both are there
abbrev pub both : {A B : Type 0} → Option A → Option B → Option (A × B)
both None y = None
both (Some x) None = None
both (Some x) (Some y) = Some (x, y)
