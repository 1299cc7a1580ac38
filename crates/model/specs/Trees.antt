-- Counting in a tree, of whatever: nodes with a depth and a parent, and an order of siblings.
use Rattle.std.specs.Prelude.{◌≡◌, ℕ, zero, suc, ◌+◌, ◌<◌, ◌≤◌, Bool, true, false, cond, not, ◌&&◌, ◌⊎◌, ◌==◌, ◌≢◌}

-- the sum of a function over all numbers below n
unfoldable pub sum_below : (ℕ → ℕ) → ℕ → ℕ
sum_below f zero = 0
sum_below f (suc n) = sum_below f n + f n

-- the nodes are the numbers below count; before: of two siblings the first comes before the second
pub record Tree : Type 0 where
  pub count : ℕ
  pub root : ℕ
  pub depth : ℕ → ℕ
  pub parent : ℕ → ℕ
  pub before : ℕ → ℕ → Bool

-- is c a child of p: the root is nobody's
abbrev pub is_child_of : Tree → ℕ → ℕ → Bool
is_child_of t p c = not (c == t.root) && t.parent c == p

-- it is a tree: all but the root are one deeper than their parents; and the order of siblings is a strict and total one
pub record IsTree (t : Tree) : Type 0 where
  pub rooted : t.root < t.count
  pub within : (a : ℕ) → a < t.count → t.parent a < t.count
  pub deeper : (a : ℕ) → a < t.count → (a ≢ t.root) → t.depth a ≡ t.depth (t.parent a) + 1
  pub strict : (a : ℕ) → t.before a a ≡ false
  pub ordered : (a b c : ℕ) → t.before a b ≡ true → t.before b c ≡ true → t.before a c ≡ true
  pub total : (a b : ℕ) → (a ≢ b) → (t.before a b ≡ true) ⊎ (t.before b a ≡ true)

-- the sizes of all children of p, and of those before a
abbrev pub child_sizes : Tree → (ℕ → ℕ) → ℕ → ℕ
child_sizes t size p = sum_below (λ c. cond (is_child_of t p c) (size c) 0) t.count

abbrev pub sizes_before : Tree → (ℕ → ℕ) → ℕ → ℕ → ℕ
sizes_before t size p a = sum_below (λ c. cond (is_child_of t p c && t.before c a) (size c) 0) t.count

-- sizes and numbers: a node's size is one and its children's sizes; the root has the number 0, and any other the next behind its parent and the siblings before it with all below them
pub record Numbered (t : Tree) (size number : ℕ → ℕ) : Type 0 where
  pub sizes : (a : ℕ) → a < t.count → size a ≡ 1 + child_sizes t size a
  pub first : number t.root ≡ 0
  pub numbers : (a : ℕ) → a < t.count → (a ≢ t.root) → number a ≡ number (t.parent a) + 1 + sizes_before t size (t.parent a) a

-- the root's size is the number of nodes; every node's number and size together are no more than that; and no two nodes have one number
pub record Counted (t : Tree) (size number : ℕ → ℕ) : Type 0 where
  pub all : size t.root ≡ t.count
  pub some : (a : ℕ) → a < t.count → 1 ≤ size a
  pub within : (a : ℕ) → a < t.count → number a + size a ≤ t.count
  pub own : (a b : ℕ) → a < t.count → b < t.count → number a ≡ number b → a ≡ b

-- COUNTING IN A TREE
abbrev pub TreesCount : Type 0
TreesCount = (t : Tree) (size number : ℕ → ℕ) → IsTree t → Numbered t size number → Counted t size number
