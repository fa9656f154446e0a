-- The first refusal that fits a node which is to follow a list.
use Rattle.std.specs.Prelude.{ℕ, Bool, true, cond, ◌&&◌, List, length, ℤ, pos, negsuc, int_le, int_lt}
use Rattle.nodes.specs.declared.node.Node.{Node}
use Rattle.nodes.specs.declared.node.Shape.{Shape}
use Rattle.nodes.specs.declared.node.Shape.TheVariants.{Quadric, Sum, Union, Common, Outside}
use Rattle.nodes.specs.Tables.{equals, shape_of, given}
use Rattle.nodes.specs.Meanings.{reaches, reach_of}
use Rattle.nodes.specs.Formed.{reach_bound}

-- low ≤ z ≤ high
abbrev pub between : ℤ → ℤ → ℤ → Bool
between low z high = int_le low z && int_le z high

-- the kind is 1 to 5
abbrev pub known : ℤ → Bool
known kind = between (pos 1) kind (pos 5)

-- z is the number of one of n nodes
abbrev pub refers : ℕ → ℤ → Bool
refers n z = int_le (pos 0) z && int_lt z (pos n)

-- each reference that the node needs is to one of n nodes
abbrev pub references : ℕ → Node → Shape → Bool
references n node Quadric = true
references n node (Sum a b) = refers n node.a && refers n node.b
references n node (Union a b) = refers n node.a && refers n node.b
references n node (Common a b) = refers n node.a && refers n node.b
references n node (Outside a) = refers n node.a

abbrev pub zeros : ℤ → ℤ → ℤ → Bool
zeros x y z = equals x 0 && (equals y 0 && equals z 0)

-- px to k are 0
abbrev pub no_quadric : Node → Bool
no_quadric node = ((zeros node.px node.py node.pz && zeros node.sx node.sy node.sz) && zeros node.lx node.ly node.lz) && equals node.k 0

-- the columns that the node does not use are 0
abbrev pub unused : Node → Shape → Bool
unused node Quadric = equals node.a 0 && equals node.b 0
unused node (Sum a b) = no_quadric node
unused node (Union a b) = no_quadric node
unused node (Common a b) = no_quadric node
unused node (Outside a) = equals node.b 0 && no_quadric node

abbrev pub all_between : ℤ → ℤ → ℤ → ℤ → ℤ → Bool
all_between low high x y z = (between low x high && between low y high) && between low z high

-- the centre is a point of the map
abbrev pub centre_lies_on_map : Node → Bool
centre_lies_on_map node = (between (negsuc 4095) node.px (pos 4096) && between (negsuc 4095) node.py (pos 4096)) && between (negsuc 15) node.pz (pos 660)

-- the numbers of a quadric are in range
abbrev pub quadric_lies_in_range : Node → Bool
quadric_lies_in_range node =
    ((centre_lies_on_map node && all_between (negsuc 15) (pos 16) node.sx node.sy node.sz) && all_between (negsuc 4095) (pos 4096) node.lx node.ly node.lz)
    && between (negsuc 1073741823) node.k (pos 1073741824)

abbrev pub in_range : Node → Shape → Bool
in_range node Quadric = quadric_lies_in_range node
in_range node (Sum a b) = true
in_range node (Union a b) = true
in_range node (Common a b) = true
in_range node (Outside a) = true

-- the reach that the node has after these
abbrev pub new_reach : List Node → Node → ℤ
new_reach nodes node = given reaches (reach_of nodes) node

-- 7 for a kind that is not 1 to 5, 8 for a needed reference that is not to an earlier node, 9 for an unused column that is not 0, 10 for a number of a quadric
-- outside its range, 11 for a reach above 2^60; 0 if none fits
abbrev pub node_refusal : List Node → Node → ℕ
node_refusal nodes node =
    cond (known node.kind)
    (cond (references (length nodes) node (shape_of node))
    (cond (unused node (shape_of node))
    (cond (in_range node (shape_of node))
    (cond (int_le (new_reach nodes node) reach_bound) 0 11)
    10)
    9)
    8)
    7
