-- The node table, and the one text that works through it, in any algebra.
use Rattle.std.specs.Prelude.{ℕ, ◌<◌, Bool, false, cond, List, [], ◌∷◌, ◌++◌, ℤ, pos, negsuc, ◌==◌, slice_index_or, unsigned_abs}
use Rattle.nodes.specs.declared.node.Node.{Node}
use Rattle.nodes.specs.declared.node.Shape.{Shape}
use Rattle.nodes.specs.declared.node.Shape.TheVariants.{Quadric, Sum, Union, Common, Outside}

-- ---- the shape of a node

-- the number z is n
abbrev pub equals : ℤ → ℕ → Bool
equals (pos k) n = k == n
equals (negsuc k) n = false

-- kind 1 is a quadric, 2 a sum, 3 a union, 4 a common part, 5 an outside
abbrev pub shape_by : ℤ → ℕ → ℕ → Shape
shape_by kind a b = cond (equals kind 1) Quadric (cond (equals kind 2) (Sum a b) (cond (equals kind 3) (Union a b) (cond (equals kind 4) (Common a b) (Outside a))))

abbrev pub shape_of : Node → Shape
shape_of node = shape_by node.kind (unsigned_abs node.a) (unsigned_abs node.b)

-- ---- algebras

-- what a quadric gives, and how what nodes give is combined
pub record Algebra (A : Type 0) : Type 0 where
  pub quadric : Node → A
  pub sum : A → A → A
  pub lesser : A → A → A
  pub greater : A → A → A
  pub opposite : A → A
  -- stands for a number that no node has
  pub unknown : A

-- what a node of this shape gives, where `look` has what the nodes give that it names
abbrev pub combined : {A : Type 0} → Algebra A → (ℕ → A) → Node → Shape → A
combined al look node Quadric = al.quadric node
combined al look node (Sum a b) = al.sum (look a) (look b)
combined al look node (Union a b) = al.lesser (look a) (look b)
combined al look node (Common a b) = al.greater (look a) (look b)
combined al look node (Outside a) = al.opposite (look a)

abbrev pub given : {A : Type 0} → Algebra A → (ℕ → A) → Node → A
given al look node = combined al look node (shape_of node)

-- ---- the table

-- what stands at place i
abbrev pub at : {A : Type 0} → Algebra A → List A → ℕ → A
at al done i = slice_index_or done i al.unknown

-- what all nodes give, where `done` has what those before them give
unfoldable pub work : {A : Type 0} → Algebra A → List A → List Node → List A
work al done [] = done
work al done (node ∷ rest) = work al (done ++ (given al (at al done) node ∷ [])) rest

-- what the nodes of a table give, in their order
abbrev pub results : {A : Type 0} → Algebra A → List Node → List A
results al nodes = work al [] nodes

-- what node i gives
abbrev pub result_of : {A : Type 0} → Algebra A → List Node → ℕ → A
result_of al nodes i = at al (results al nodes) i

-- a node of this shape at place i names earlier nodes only
abbrev pub Earlier : ℕ → Shape → Type 0
Earlier i Quadric = Unit {0}
Earlier i (Sum a b) = (a < i) × (b < i)
Earlier i (Union a b) = (a < i) × (b < i)
Earlier i (Common a b) = (a < i) × (b < i)
Earlier i (Outside a) = a < i
