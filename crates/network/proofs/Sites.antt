-- The hall of a topology, by its sites.
use Rattle.std.proofs.Common.{◌≡◌, ℕ, ◌<◌, ◌≤◌, false, List, [], map, length, get_or, vec_items, sym, ap, ◌∙◌, arith}
use Rattle.std.proofs.lemmas.List.{get_or-map, get_or_past, length-map}
use Rattle.protocol.specs.declared.facts.Site.{Site}
use Rattle.protocol.specs.Rows.{places_of, has_wire, NoWireTo}
use Rattle.protocol.proofs.Wires.{wire_missing}
use Rattle.model.specs.Halls.{is_wired}
use Rattle.topology.specs.declared.hall.Topology.{Topology}
use Rattle.topology.specs.Lamps.{hall_in}
use Rattle.topology.specs.Reading.{hall_of}

module _ (most : ℕ) (sites : List Site) (j : ℕ) where
  -- the neighbours of a lamp are the places of its site
  pub neighbours_at : (d : Site) → j < length sites → (hall_in most sites).neighbours j ≡ places_of (get_or sites j d)
  neighbours_at d l = get_or-map places_of sites j d [] l

-- the same, where the sites are lent
module _ (t : Topology) (lent : List Site) (same : lent ≡ vec_items t.sites) (j i : ℕ) where
  pub no_lamp : length lent ≤ j → is_wired (hall_of t) j i ≡ false
  unfolding has_wire
  no_lamp l =
      ap (λ ps. has_wire ps i) (get_or_past (map places_of (vec_items t.sites)) j [] (omega (arith, length-map (vec_items t.sites) places_of, ap length same)))

  module _ (s : Site) (l : j < length lent) (at : s ≡ get_or lent j s) where
    inside : j < length (vec_items t.sites)
    inside = omega (arith, ap length same)

    pub places_at : (hall_of t).neighbours j ≡ places_of s
    places_at = neighbours_at t.most (vec_items t.sites) j s inside ∙ ap places_of (sym (at ∙ ap (λ xs. get_or xs j s) same))

    pub no_slot_at : NoWireTo s i → is_wired (hall_of t) j i ≡ false
    no_slot_at w = ap (λ ps. has_wire ps i) places_at ∙ wire_missing s i w
