-- What is known of distances and parents in a sound hall.
use Rattle.std.proofs.Common.{◌≡◌, ℕ, ◌+◌, ◌<◌, ◌≤◌, true}
use Rattle.model.specs.Halls.{Hall, is_wired}
use Rattle.model.specs.Assignment.{root_of, distance_of, parent_of}
use Rattle.model.specs.Promise.{Lowest}

pub record Facts (h : Hall) : Type 0 where
  pub lowest : Lowest h (root_of h)
  pub below : (i : ℕ) → i < h.count → distance_of h i < h.count
  pub at_root : distance_of h (root_of h) ≡ 0
  pub only_root : (i : ℕ) → i < h.count → distance_of h i ≡ 0 → i ≡ root_of h
  pub across : (i j : ℕ) → i < h.count → is_wired h i j ≡ true → distance_of h i ≤ distance_of h j + 1
  pub parent_of_root : parent_of h (root_of h) ≡ root_of h
  pub parent_wired : (i : ℕ) → i < h.count → (i ≡ root_of h → ⊥) → is_wired h i (parent_of h i) ≡ true
  pub parent_nearer : (i : ℕ) → i < h.count → (i ≡ root_of h → ⊥) → distance_of h (parent_of h i) + 1 ≡ distance_of h i
