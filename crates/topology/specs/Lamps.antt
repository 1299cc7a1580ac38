-- The hall that sites stand for, one for each lamp in order of places.
use Rattle.std.specs.Prelude.{◌≡◌, ℕ, ◌<◌, List, [], map, length, get_or, slice_index, slice_index_or}
use Rattle.protocol.specs.declared.facts.Site.{Site}
use Rattle.protocol.specs.Rows.{places_of}
use Rattle.model.specs.Halls.{Hall}

abbrev pub hall_in : ℕ → List Site → Hall
hall_in most sites =
    record {
      count = length sites;
      most = most;
      name = λ i. slice_index (map (λ s. s.own.name) sites) i;
      neighbours = λ i. slice_index_or (map places_of sites) i [];
    }

-- each site is that of its place
abbrev pub Placed : List Site → Type 0
Placed sites = (i : ℕ) (d : Site) → i < length sites → (get_or sites i d).own.place ≡ i

-- in a hall of at most so many lamps
abbrev pub OfMost : ℕ → List Site → Type 0
OfMost most sites = (i : ℕ) (d : Site) → i < length sites → (get_or sites i d).own.most ≡ most
