-- A loop over places that rise: what is left decides.
use Rattle.std.proofs.Common.{◌≡◌, ℕ, ◌+◌, ◌<◌, ◌≤◌, Bool, true, false, ◌&&◌, List, length, get_or, drop, ap, ◌∙◌}
use Rattle.std.proofs.lemmas.List.{at_drop_more, at_drop_all}
use Rattle.protocol.specs.declared.facts.Own.{Own}
use Rattle.protocol.specs.Wiring.{may_wire, rises_from}

module _ (own : Own) (low : ℕ) (ps : List ℕ) (i : ℕ) where
  rises_step : i < length ps → rises_from own low (drop i ps) ≡ may_wire own low (get_or ps i 0) && rises_from own (get_or ps i 0 + 1) (drop (i + 1) ps)
  unfolding rises_from
  rises_step h = at_drop_more (rises_from own low) ps i 0 h

  pub rises_more :
      (all : Bool) → i < length ps → all ≡ rises_from own low (drop i ps) → may_wire own low (get_or ps i 0) ≡ true →
      all ≡ rises_from own (get_or ps i 0 + 1) (drop (i + 1) ps)
  rises_more all h e t = e ∙ rises_step h ∙ ap (λ b. b && rises_from own (get_or ps i 0 + 1) (drop (i + 1) ps)) t

  pub rises_stop : (all : Bool) → i < length ps → all ≡ rises_from own low (drop i ps) → may_wire own low (get_or ps i 0) ≡ false → all ≡ false
  rises_stop all h e t = e ∙ rises_step h ∙ ap (λ b. b && rises_from own (get_or ps i 0 + 1) (drop (i + 1) ps)) t

  pub rises_all : length ps ≤ i → rises_from own low (drop i ps) ≡ true
  unfolding rises_from
  rises_all h = at_drop_all (rises_from own low) ps i h
