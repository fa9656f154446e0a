-- When the size of one node can be computed from those before it.
use Rattle.std.specs.Prelude.{ℕ, ◌<◌, List, ℤ, pos, slice_index_or}
use Rattle.integer.specs.Numbers.{Within}
use Rattle.nodes.specs.declared.node.Node.{Node}
use Rattle.nodes.specs.declared.node.Shape.{Shape}
use Rattle.nodes.specs.declared.node.Shape.TheVariants.{Quadric, Sum, Union, Common, Outside}
use Rattle.nodes.specs.Formed.{InRange}

-- entry k is there, and within 2^60
pub record Entry (done : List ℤ) (k : ℕ) : Type 0 where
  pub there : k < 64
  pub small : Within (slice_index_or done k (pos 0)) (pos 1152921504606846976)

-- the numbers of a quadric are in range, and the entries are there that the node needs
abbrev pub Ready : Node → List ℤ → Shape → Type 0
Ready node done Quadric = InRange node
Ready node done (Sum a b) = Entry done a × Entry done b
Ready node done (Union a b) = Entry done a × Entry done b
Ready node done (Common a b) = Entry done a × Entry done b
Ready node done (Outside a) = Entry done a
