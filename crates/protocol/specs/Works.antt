-- What a lamp that has worked holds.
use Rattle.std.specs.Prelude.{◌≡◌, ℕ, ◌<◌, Bool, true, false, List, ◌++◌, map, codes, decimal, Some, None, Ok, Err, Option, Result, slice_index, slice_index_or}
use Rattle.std.specs.Option.{option_map}
use Rattle.telling.specs.declared.refusal.Refusal.{Refusal}
use Rattle.telling.specs.declared.refusal.Refusal.TheVariants.{NoWire}
use Rattle.telling.specs.Layout.{frame_of}
use Rattle.protocol.specs.declared.state.Lamp.{Lamp}
use Rattle.protocol.specs.declared.state.Numbers.{Numbers}
use Rattle.protocol.specs.declared.work.Best.{Best}
use Rattle.protocol.specs.Rows.{Neighbour, row_of, places_of, has_wire, remembered}
use Rattle.protocol.specs.Rules.{telling_at, worked, given_to, telling_with, tells}

-- the numbers given on the wires below k are those of the rules
abbrev pub Gives : Lamp → Best → ℕ → List ℕ → ℕ → Type 0
Gives l b number given k =
    (j : ℕ) → j < k → (d : Neighbour) → slice_index given j ≡ given_to l.site.own b number (remembered l) (slice_index_or (remembered l) j d)

-- the six numbers worked out last
abbrev pub shown : Lamp → Option Numbers
shown l = option_map (λ w. w.numbers) l.last

-- six numbers in their order, a space between two, as they are printed
abbrev pub numbers_line : Numbers → List ℕ
numbers_line n =
    decimal n.best ++ (codes " " ++ (decimal n.distance ++ (codes " " ++ (decimal n.parent ++ (codes " " ++ (decimal n.size ++
    (codes " " ++ (decimal n.total ++ (codes " " ++ decimal n.number)))))))))

-- what lies on a lamp's wires since it last worked: to each neighbour, by rising place, its telling
abbrev pub on_wires : Lamp → Option (List Neighbour)
on_wires l = option_map (λ w. row_of (places_of l.site) (map (telling_with w.numbers) w.given)) l.last

-- a lamp after it has worked: its numbers and its tellings are the rules' of what it remembers, and nothing else has changed
pub record Worked (before after : Lamp) : Type 0 where
  pub site : after.site ≡ before.site
  pub heard : after.heard ≡ before.heard
  pub numbers : shown after ≡ Some (worked before.site.own (remembered before))
  pub wires : on_wires after ≡ Some (tells before.site.own (remembered before))

-- what is told to a place, by whether it is wired and what lies on the wires: no wire is refused by 2, and before the first work there is no frame
abbrev pub frame_to : ℕ → Bool → Option (List Neighbour) → Result (Option (List ℕ)) Refusal
frame_to place false wires = Err NoWire
frame_to place true None = Ok None
frame_to place true (Some row) = Ok (Some (frame_of (telling_at place row)))

-- what a lamp tells a place
abbrev pub tell_of : Lamp → ℕ → Result (Option (List ℕ)) Refusal
tell_of l place = frame_to place (has_wire (places_of l.site) place) (on_wires l)
