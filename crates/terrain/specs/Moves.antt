-- What the functions inside the crate say of each other: where a half-step lies, the coefficients of a cell, and whether a piece stays in a cell.
use Rattle.std.specs.Prelude.{◌≡◌, ℕ, suc, Bool, ◌&&◌, List, ℤ, pos, ◌+ℤ◌, ◌-ℤ◌, ◌*ℤ◌, unsigned_abs}
use Rattle.affine.specs.declared.Form.{Form}
use Rattle.affine.specs.Forms.{sum_of, scaled_by, shifted_by, product_of}
use Rattle.leg.specs.declared.shapes.Piece.{Piece}
use Rattle.lattice.specs.Surface.{into}
use Rattle.lattice.specs.Terrain.{from_edge, cell_of, in_cell}
use Rattle.terrain.specs.declared.cell.Cell.{Cell}
use Rattle.leg.specs.declared.shapes.Coordinate.{Coordinate}
use Rattle.terrain.specs.Rows.{heights_of}

-- the step from height (i, j) to the next in x, and to the next in y
abbrev pub step_to_east : List ℤ → ℕ → ℕ → ℕ
step_to_east hs j i = unsigned_abs (heights_of hs (suc i) j -ℤ heights_of hs i j)

abbrev pub step_to_north : List ℤ → ℕ → ℕ → ℕ
step_to_north hs j i = unsigned_abs (heights_of hs i (suc j) -ℤ heights_of hs i j)

-- half-step s of a coordinate's run: where it lies from the lattice's low edge, in which cell, and how far into it
abbrev pub edge_at : Coordinate → ℤ → ℤ
edge_at run s = from_edge run.from run.to s (pos 1)

abbrev pub cell_at : Coordinate → ℤ → ℕ
cell_at run s = cell_of (pos 262144) (edge_at run s)

abbrev pub depth_at : Coordinate → ℤ → ℤ
depth_at run s = into (pos 262144) (cell_at run s) (edge_at run s)

-- both ends of a piece lie in the closed cell of its middle, in the direction in which the leg goes from a to b
abbrev pub stays_along : (a b : ℤ) → Piece → Bool
stays_along a b piece =
    in_cell (pos 262144) (cell_of (pos 262144) (from_edge a b (pos piece.middle) (pos 1))) (from_edge a b (pos piece.middle -ℤ pos piece.half) (pos 1))
    && in_cell (pos 262144) (cell_of (pos 262144) (from_edge a b (pos piece.middle) (pos 1))) (from_edge a b (pos piece.middle +ℤ pos piece.half) (pos 1))

-- the coefficients of cell (i, j)
pub record OfCell (hs : List ℤ) (i j : ℕ) (cell : Cell) : Type 0 where
  pub base : cell.base ≡ heights_of hs i j
  pub east : cell.east ≡ heights_of hs (suc i) j -ℤ heights_of hs i j
  pub north : cell.north ≡ heights_of hs i (suc j) -ℤ heights_of hs i j
  pub twist : cell.twist ≡ heights_of hs i j -ℤ heights_of hs (suc i) j -ℤ heights_of hs i (suc j) +ℤ heights_of hs (suc i) (suc j)

-- the ground, f and g into the cell
abbrev pub ground_from : Cell → (f g : ℤ) → ℤ
ground_from cell f g = pos 68719476736 *ℤ cell.base +ℤ pos 262144 *ℤ (cell.east *ℤ f) +ℤ pos 262144 *ℤ (cell.north *ℤ g) +ℤ cell.twist *ℤ f *ℤ g

-- the same in forms
abbrev pub form_of_ground : Cell → (f g : Form) → Form
form_of_ground cell f g =
    shifted_by (pos 68719476736 *ℤ cell.base)
    (sum_of (sum_of (scaled_by (pos 262144 *ℤ cell.east) f) (scaled_by (pos 262144 *ℤ cell.north) g)) (scaled_by cell.twist (product_of f g)))
