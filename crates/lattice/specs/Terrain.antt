-- Terrain as a field: its value, its steepness and its bound, over ℤ without limit.
-- Heights stand on a lattice of 129 × 129; `h i j` is the height at the i-th place in x and the j-th in y. A leg goes from (x1, y1, z1) to (x2, y2, z2), and a
-- place p, q of it lies p/q half-steps from its start. Every scaled number below is q times (q · q times: `surface`, `value`) what it stands for, so that all are whole.
use Rattle.std.specs.Prelude.{ℕ, zero, suc, ◌/◌, ◌<◌, min, max, Bool, cond, ◌&&◌, ℤ, pos, negsuc, ◌+ℤ◌, ◌-ℤ◌, ◌*ℤ◌, ◌≤ℤ◌, int_le, unsigned_abs}
use Rattle.leg.specs.declared.shapes.Leg.{Leg}
use Rattle.leg.specs.Places.{coordinate}
use Rattle.affine.specs.Forms.{sum_of, scaled_by, shifted_by, opposite_of, product_of}
use Rattle.affine.specs.declared.Form.{Form}
use Rattle.integer.specs.Numbers.{absℤ}
use Rattle.lattice.specs.Surface.{into}

-- each height of the lattice is from -16 to 300
pub record Heights (h : ℕ → ℕ → ℤ) : Type 0 where
  pub from : (i j : ℕ) → i < 129 → j < 129 → negsuc 15 ≤ℤ h i j
  pub to : (i j : ℕ) → i < 129 → j < 129 → h i j ≤ℤ pos 300

-- ---- places

-- q times a scaled coordinate, counted from the lattice's low edge, which lies at -4096
abbrev pub from_edge : (a b p q : ℤ) → ℤ
from_edge a b p q = coordinate a b p q +ℤ pos 16777216 *ℤ q

-- ---- cells

-- the width of a cell, 2^18
abbrev pub width : ℤ → ℤ
width q = pos 262144 *ℤ q

-- the cell at u, where cells are w wide: the whole part of u / w, at most 127 (u is never below 0 and w never 0 on a leg)
unfoldable pub cell_of : (w u : ℤ) → ℕ
cell_of w u = min (unsigned_abs u / unsigned_abs w) 127

abbrev pub cell_x : Leg → (p q : ℤ) → ℕ
cell_x leg p q = cell_of (width q) (from_edge leg.start.x leg.end.x p q)

abbrev pub cell_y : Leg → (p q : ℤ) → ℕ
cell_y leg p q = cell_of (width q) (from_edge leg.start.y leg.end.y p q)

-- how far the place lies into cell i in x, into cell j in y
abbrev pub into_x : Leg → ℕ → (p q : ℤ) → ℤ
into_x leg i p q = into (width q) i (from_edge leg.start.x leg.end.x p q)

abbrev pub into_y : Leg → ℕ → (p q : ℤ) → ℤ
into_y leg j p q = into (width q) j (from_edge leg.start.y leg.end.y p q)

-- ---- the value

-- the ground by the formula of cell (i, j), f and g into it: 2^36 h00 + 2^18 (h10 - h00) f + 2^18 (h01 - h00) g + (h00 - h10 - h01 + h11) f g
abbrev pub surface : (ℕ → ℕ → ℤ) → (i j : ℕ) → (f g q : ℤ) → ℤ
surface h i j f g q =
    pos 68719476736 *ℤ h i j *ℤ (q *ℤ q)
    +ℤ pos 262144 *ℤ (h (suc i) j -ℤ h i j) *ℤ f *ℤ q
    +ℤ pos 262144 *ℤ (h i (suc j) -ℤ h i j) *ℤ g *ℤ q
    +ℤ (h i j -ℤ h (suc i) j -ℤ h i (suc j) +ℤ h (suc i) (suc j)) *ℤ f *ℤ g

-- the value by the formula of cell (i, j): 2^24 Z less the ground
abbrev pub value_in : (ℕ → ℕ → ℤ) → Leg → (i j : ℕ) → (p q : ℤ) → ℤ
value_in h leg i j p q = pos 16777216 *ℤ coordinate leg.start.z leg.end.z p q *ℤ q -ℤ surface h i j (into_x leg i p q) (into_y leg j p q) q

-- F(p, q): the value by the formula of the cell at the place
unfoldable pub value : (ℕ → ℕ → ℤ) → Leg → (p q : ℤ) → ℤ
value h leg p q = value_in h leg (cell_x leg p q) (cell_y leg p q) p q

-- ---- the steepness

-- the largest of f 0, .., f (n - 1)
unfoldable pub most : ℕ → (ℕ → ℕ) → ℕ
most zero f = 0
most (suc n) f = max (most n f) (f n)

-- the largest difference of heights next to each other in x or y
unfoldable pub greatest_step : (ℕ → ℕ → ℤ) → ℕ
greatest_step h =
    max (most 129 (λ (j : ℕ). most 128 (λ (i : ℕ). unsigned_abs (h (suc i) j -ℤ h i j))))
    (most 128 (λ (j : ℕ). most 129 (λ (i : ℕ). unsigned_abs (h i (suc j) -ℤ h i j))))

-- L, where no step of the lattice is larger than D: 2^24 |dz| + 3 · 2^18 D (|dx| + |dy|)
unfoldable pub steepness : (D : ℤ) → Leg → ℤ
steepness D leg =
    pos 16777216 *ℤ absℤ (leg.end.z -ℤ leg.start.z)
    +ℤ pos 786432 *ℤ D *ℤ (absℤ (leg.end.x -ℤ leg.start.x) +ℤ absℤ (leg.end.y -ℤ leg.start.y))

-- R
abbrev pub reach : ℤ
reach = pos 18014398509481984

-- ---- the bound on the piece of middle m and half-width r

-- a number that changes evenly along the piece: its value at the middle, and its change from there to the end
abbrev pub even : (at_middle change : ℤ) → Form
even a c = record { u0 = a; u1 = c; u2 = pos 0 }

-- u lies in the closed cell i
abbrev pub in_cell : (w : ℤ) → ℕ → ℤ → Bool
in_cell w i u = int_le (pos 0) (into w i u) && int_le (into w i u) w

-- both ends of the piece lie in the closed cell of its middle
unfoldable pub lies_in_one_cell : Leg → (m r : ℤ) → Bool
lies_in_one_cell leg m r =
    (in_cell (width (pos 1)) (cell_x leg m (pos 1)) (from_edge leg.start.x leg.end.x (m -ℤ r) (pos 1))
    && in_cell (width (pos 1)) (cell_x leg m (pos 1)) (from_edge leg.start.x leg.end.x (m +ℤ r) (pos 1)))
    && (in_cell (width (pos 1)) (cell_y leg m (pos 1)) (from_edge leg.start.y leg.end.y (m -ℤ r) (pos 1))
    && in_cell (width (pos 1)) (cell_y leg m (pos 1)) (from_edge leg.start.y leg.end.y (m +ℤ r) (pos 1)))

-- the formula of `surface` in forms
abbrev pub surface_form : (ℕ → ℕ → ℤ) → (i j : ℕ) → (f g : Form) → Form
surface_form h i j f g =
    shifted_by (pos 68719476736 *ℤ h i j)
    (sum_of (sum_of (scaled_by (pos 262144 *ℤ (h (suc i) j -ℤ h i j)) f) (scaled_by (pos 262144 *ℤ (h i (suc j) -ℤ h i j)) g))
    (scaled_by (h i j -ℤ h (suc i) j -ℤ h i (suc j) +ℤ h (suc i) (suc j)) (product_of f g)))

-- the formula of `value_in` in forms
abbrev pub form_in : (ℕ → ℕ → ℤ) → Leg → (i j : ℕ) → (m r : ℤ) → Form
form_in h leg i j m r =
    sum_of (scaled_by (pos 16777216) (even (coordinate leg.start.z leg.end.z m (pos 1)) ((leg.end.z -ℤ leg.start.z) *ℤ r)))
    (opposite_of (surface_form h i j (even (into_x leg i m (pos 1)) ((leg.end.x -ℤ leg.start.x) *ℤ r)) (even (into_y leg j m (pos 1)) ((leg.end.y -ℤ leg.start.y) *ℤ r))))

-- all values within L r of the one at the middle
abbrev pub wide_form : (ℕ → ℕ → ℤ) → (D : ℤ) → Leg → (m r : ℤ) → Form
wide_form h D leg m r = record { u0 = value h leg m (pos 1); u1 = pos 0; u2 = steepness D leg *ℤ r }

unfoldable pub bound : (ℕ → ℕ → ℤ) → (D : ℤ) → Leg → (m r : ℤ) → Form
bound h D leg m r = cond (lies_in_one_cell leg m r) (form_in h leg (cell_x leg m (pos 1)) (cell_y leg m (pos 1)) m r) (wide_form h D leg m r)
