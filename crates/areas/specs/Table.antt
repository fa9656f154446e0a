-- What the nodes and the areas of a sheet keep to.
use Rattle.std.specs.Prelude.{◌≡◌, ℕ, ◌+◌, ◌<◌, ◌≤◌, Bool, false, List, length, take, Some, None, Option, ◌==◌, slice_index_or}
use Rattle.std.specs.List.{list_any}
use Rattle.nodes.specs.declared.node.Node.{Node}
use Rattle.nodes.specs.Formed.{no_node}
use Rattle.nodes.specs.Validation.{node_refusal}
use Rattle.areas.specs.declared.area.Area.{Area}

-- how many nodes a slot needs
abbrev pub needed : Option Area → ℕ
needed None = 0
needed (Some a) = a.node + 1

-- the node of every area is one of the first n
abbrev pub AllStand : ℕ → List (Option Area) → Type 0
AllStand n slots = (k : ℕ) → needed (slice_index_or slots k None) ≤ n

-- each node can follow those before it: no refusal fits it
abbrev pub Accepted : List Node → Type 0
Accepted nodes = (i : ℕ) → i < length nodes → node_refusal (take i nodes) (slice_index_or nodes i no_node) ≡ 0

-- the slot holds an area, on or off, that has this node
abbrev pub has : ℕ → Option Area → Bool
has node None = false
has node (Some a) = a.node == node

-- an area, on or off, has this node
abbrev pub used : ℕ → List (Option Area) → Bool
used node slots = list_any (has node) slots
