-- Text that is put together in a loop.
use Rattle.std.proofs.Common.{◌≡◌, ℕ, ◌+◌, ◌<◌, List, [], ◌++◌, length, get_or, take, ap}
use Rattle.std.specs.List.{flat_map}
use Rattle.std.proofs.lemmas.List.{take_more, flat_map_more}

-- one more piece
pub pieces_more :
    (f : ℕ → List ℕ) (xs : List ℕ) (k : ℕ) (before after piece : List ℕ) → k < length xs → before ≡ flat_map f (take k xs) → piece ≡ f (get_or xs k 0) →
    after ≡ before ++ piece → after ≡ flat_map f (take (k + 1) xs)
pieces_more f xs k before after piece h b p e =
    let more = ap (flat_map f) (take_more xs k 0 h) in
    let last = flat_map_more f [] (take k xs) (get_or xs k 0) in
    cc
