-- A lamp that has worked has the rules' tellings on its wires.
use Rattle.std.proofs.Common.{◌≡◌, ℕ, ◌<◌, ◌≤◌, List, map, length, get_or, ap, ◌∙◌, arith}
use Rattle.std.proofs.lemmas.List.{same_lists, get_or-map, length-map}
use Rattle.telling.specs.declared.Telling.{Telling}
use Rattle.protocol.specs.declared.state.Lamp.{Lamp}
use Rattle.protocol.specs.declared.state.Numbers.{Numbers}
use Rattle.protocol.specs.declared.work.Best.{Best}
use Rattle.protocol.specs.Rows.{Neighbour, row_of, places_of, remembered}
use Rattle.protocol.specs.Rules.{nothing, best_of, numbers_of, given_to, telling_with, told_to, tells}
use Rattle.protocol.specs.Works.{Gives}
use Rattle.protocol.proofs.Rows.{length-places_of, length-row, get_or-row, length-remembered}

module _ (l : Lamp) (heard : length l.heard ≡ 16) where
  module _ (b : Best) (w : Numbers) (best : b ≡ best_of l.site.own (remembered l)) (numbers : w ≡ numbers_of l.site.own b (remembered l)) where
    told_kth : (n : Neighbour) (given : ℕ) → given ≡ given_to l.site.own b w.number (remembered l) n → telling_with w given ≡ told_to l.site.own (remembered l) n
    told_kth n given e =
        let F : Numbers → Best → Telling = λ w b. telling_with w (given_to l.site.own b w.number (remembered l) n) in
        ap (telling_with w) e ∙ ap (λ w. F w b) numbers ∙ ap (λ b. F (numbers_of l.site.own b (remembered l)) b) best

    pub told_row :
        (given : List ℕ) → length given ≡ 16 → Gives l b w.number given l.site.wires →
        row_of (places_of l.site) (map (telling_with w) given) ≡ tells l.site.own (remembered l)
    told_row given full gives =
        let long = length-places_of l.site in
        let told : List Telling = map (telling_with w) given in
        let wide : length told ≡ 16 = length-map given (telling_with w) ∙ full in
        let enough : length (places_of l.site) ≤ length told = omega (arith, l.site.few) in
        let short = length-row (places_of l.site) told enough in
        let row = length-remembered l heard in
        let all : length (tells l.site.own (remembered l)) ≡ length (remembered l) = length-map (remembered l) _ in
        same_lists _ _ (omega arith)
        (λ k d h.
        let inside : k < l.site.wires = omega arith in
        let said = get_or-row (places_of l.site) told k d nothing enough (omega arith) in
        let kept = get_or-row (places_of l.site) l.heard k d nothing (omega (arith, l.site.few)) (omega arith) in
        let new = get_or-map (telling_with w) given k 0 nothing (omega (arith, l.site.few)) in
        let rule = told_kth (get_or (remembered l) k d) (get_or given k 0) (gives k inside d) in
        let right = get_or-map (λ n. record { place = n.place; telling = told_to l.site.own (remembered l) n }) (remembered l) k d d (omega arith) in
        let place = ap (λ n. n.place) kept in
        cc)
