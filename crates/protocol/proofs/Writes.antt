-- A loop that writes an array from the front.
use Rattle.std.proofs.Common.{ℕ, ◌+◌, ◌<◌, ◌≢◌, List, length, get_or, set, sym, subst, arith, get_or-set_other, get_or-set_same, below_more}

module _ {X : Type 0} (xs : List X) (k : ℕ) (x d : X) (P : ℕ → X → Type 0) where
  earlier : (j : ℕ) → j < k → P j (get_or xs j d) → P j (get_or (set xs k x) j d)
  earlier j h p = let other : j ≢ k = omega arith in subst (P j) (sym (get_or-set_other xs k j x d other)) p

  -- what holds of each element below k, and of the one written there, holds of each below k + 1
  pub written_more : k < length xs → ((j : ℕ) → j < k → P j (get_or xs j d)) → P k x → (j : ℕ) → j < k + 1 → P j (get_or (set xs k x) j d)
  written_more inside below here =
      below_more (λ j. P j (get_or (set xs k x) j d)) k (λ j h. earlier j h (below j h)) (subst (P k) (sym (get_or-set_same xs k x d inside)) here)
