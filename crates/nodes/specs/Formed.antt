-- What a list of nodes keeps.
use Rattle.std.specs.Prelude.{◌≡◌, ℕ, ◌<◌, List, length, get_or, ℤ, pos, negsuc, ◌≤ℤ◌, ◌<ℤ◌, slice_index_or}
use Rattle.std.proofs.Math.Dec.{T_prop}
use Rattle.std.proofs.Math.IntN.{ℤ_set}
use Rattle.integer.specs.Numbers.{Within}
use Rattle.nodes.specs.declared.node.Node.{Node}
use Rattle.nodes.specs.declared.node.Shape.{Shape}
use Rattle.nodes.specs.declared.node.Shape.TheVariants.{Quadric, Sum, Union, Common, Outside}
use Rattle.nodes.specs.Tables.{shape_of}
use Rattle.nodes.specs.Meanings.{reach_of}

-- the numbers of a quadric are in range: its centre is a point of the map
pub record InRange (node : Node) : Type 0 where
  pub px_in : Within node.px (pos 4096)
  pub py_in : Within node.py (pos 4096)
  pub pz_from : negsuc 15 ≤ℤ node.pz
  pub pz_to : node.pz ≤ℤ pos 660
  pub sx_in : Within node.sx (pos 16)
  pub sy_in : Within node.sy (pos 16)
  pub sz_in : Within node.sz (pos 16)
  pub lx_in : Within node.lx (pos 4096)
  pub ly_in : Within node.ly (pos 4096)
  pub lz_in : Within node.lz (pos 4096)
  pub k_in : Within node.k (pos 1073741824)

-- the columns px to k are 0
pub record NoQuadric (node : Node) : Type 0 where
  pub px_zero : node.px ≡ pos 0
  pub py_zero : node.py ≡ pos 0
  pub pz_zero : node.pz ≡ pos 0
  pub sx_zero : node.sx ≡ pos 0
  pub sy_zero : node.sy ≡ pos 0
  pub sz_zero : node.sz ≡ pos 0
  pub lx_zero : node.lx ≡ pos 0
  pub ly_zero : node.ly ≡ pos 0
  pub lz_zero : node.lz ≡ pos 0
  pub k_zero : node.k ≡ pos 0

-- z is the number of a node before place i
pub record Refers (i : ℕ) (z : ℤ) : Type 0 where
  pub from : pos 0 ≤ℤ z
  pub to : z <ℤ pos i

-- what a node of this shape at place i keeps: each reference that it needs is to an earlier node, the columns that it does not use are 0, and a quadric's
-- numbers are in range
abbrev pub Keeps : ℕ → Node → Shape → Type 0
Keeps i node Quadric = (node.a ≡ pos 0) × (node.b ≡ pos 0) × InRange node
Keeps i node (Sum a b) = Refers i node.a × Refers i node.b × NoQuadric node
Keeps i node (Union a b) = Refers i node.a × Refers i node.b × NoQuadric node
Keeps i node (Common a b) = Refers i node.a × Refers i node.b × NoQuadric node
Keeps i node (Outside a) = Refers i node.a × (node.b ≡ pos 0) × NoQuadric node

-- the kind is 1 to 5
pub record Known (kind : ℤ) : Type 0 where
  pub from : pos 1 ≤ℤ kind
  pub to : kind ≤ℤ pos 5

-- 2^60
abbrev pub reach_bound : ℤ
reach_bound = pos 1152921504606846976

-- stands at the places that a table does not have
abbrev pub no_node : Node
no_node = record { kind = pos 0; a = pos 0; b = pos 0; px = pos 0; py = pos 0; pz = pos 0; sx = pos 0; sy = pos 0; sz = pos 0; lx = pos 0; ly = pos 0; lz = pos 0; k = pos 0 }

pub record WellFormed (nodes : List Node) : Type 0 where
  pub known : (i : ℕ) → i < length nodes → Known (get_or nodes i no_node).kind
  pub keeps : (i : ℕ) → i < length nodes → Keeps i (slice_index_or nodes i no_node) (shape_of (slice_index_or nodes i no_node))
  pub reached : (i : ℕ) → i < length nodes → reach_of nodes i ≤ℤ reach_bound

-- a node of this shape keeps it in one way only
keeps_prop : (i : ℕ) (node : Node) (shape : Shape) → IsProp (Keeps i node shape)
keeps_prop i node Quadric = Prim.hlevel (ℤ_set, T_prop)
keeps_prop i node (Sum a b) = Prim.hlevel (ℤ_set, T_prop)
keeps_prop i node (Union a b) = Prim.hlevel (ℤ_set, T_prop)
keeps_prop i node (Common a b) = Prim.hlevel (ℤ_set, T_prop)
keeps_prop i node (Outside a) = Prim.hlevel (ℤ_set, T_prop)

-- so a list is well-formed in one way only
pub well_formed_prop : (nodes : List Node) → IsProp (WellFormed nodes)
well_formed_prop nodes = Prim.hlevel (keeps_prop, T_prop)
