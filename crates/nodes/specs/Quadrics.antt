-- Quadrics on a leg: value, steepness, reach and form.
use Rattle.std.specs.Prelude.{ℤ, pos, ◌+ℤ◌, ◌-ℤ◌, ◌*ℤ◌}
use Rattle.integer.specs.Numbers.{absℤ}
use Rattle.leg.specs.declared.shapes.Leg.{Leg}
use Rattle.leg.specs.Places.{coordinate}
use Rattle.affine.specs.declared.Form.{Form}
use Rattle.affine.specs.Forms.{sum_of, scaled_by, shifted_by, product_of}
use Rattle.nodes.specs.declared.node.Node.{Node}

-- q times the scaled coordinate at p, q of a leg on which it goes from a to b, from the centre's scaled coordinate on: 4096 (a − c) q + (b − a) p
abbrev pub offset : (a b c p q : ℤ) → ℤ
offset a b c p q = coordinate a b p q -ℤ pos 4096 *ℤ c *ℤ q

-- q DX, q DY, q DZ
abbrev pub offset_x : Leg → Node → (p q : ℤ) → ℤ
offset_x leg node p q = offset leg.start.x leg.end.x node.px p q

abbrev pub offset_y : Leg → Node → (p q : ℤ) → ℤ
offset_y leg node p q = offset leg.start.y leg.end.y node.py p q

abbrev pub offset_z : Leg → Node → (p q : ℤ) → ℤ
offset_z leg node p q = offset leg.start.z leg.end.z node.pz p q

-- q² times sx DX² + sy DY² + sz DZ² + 4096 (lx DX + ly DY + lz DZ) + 2^24 k
unfoldable pub quadric_value : Leg → Node → (p q : ℤ) → ℤ
quadric_value leg node p q =
    node.sx *ℤ (offset_x leg node p q *ℤ offset_x leg node p q)
    +ℤ node.sy *ℤ (offset_y leg node p q *ℤ offset_y leg node p q)
    +ℤ node.sz *ℤ (offset_z leg node p q *ℤ offset_z leg node p q)
    +ℤ pos 4096 *ℤ (node.lx *ℤ offset_x leg node p q +ℤ node.ly *ℤ offset_y leg node p q +ℤ node.lz *ℤ offset_z leg node p q) *ℤ q
    +ℤ pos 16777216 *ℤ node.k *ℤ (q *ℤ q)

-- |x dx| + |y dy| + |z dz|, where the leg moves by dx, dy, dz
abbrev pub moved_by : Leg → (x y z : ℤ) → ℤ
moved_by leg x y z = absℤ (x *ℤ (leg.end.x -ℤ leg.start.x)) +ℤ absℤ (y *ℤ (leg.end.y -ℤ leg.start.y)) +ℤ absℤ (z *ℤ (leg.end.z -ℤ leg.start.z))

-- 2^26 (|sx dx| + |sy dy| + |sz dz|) + 4096 (|lx dx| + |ly dy| + |lz dz|)
unfoldable pub quadric_steepness : Leg → Node → ℤ
quadric_steepness leg node =
    pos 67108864 *ℤ (absℤ (node.sx *ℤ (leg.end.x -ℤ leg.start.x)) +ℤ absℤ (node.sy *ℤ (leg.end.y -ℤ leg.start.y)) +ℤ absℤ (node.sz *ℤ (leg.end.z -ℤ leg.start.z)))
    +ℤ pos 4096 *ℤ (absℤ (node.lx *ℤ (leg.end.x -ℤ leg.start.x)) +ℤ absℤ (node.ly *ℤ (leg.end.y -ℤ leg.start.y)) +ℤ absℤ (node.lz *ℤ (leg.end.z -ℤ leg.start.z)))

-- 2^50 (|sx| + |sy| + |sz|) + 2^37 (|lx| + |ly| + |lz|) + 2^24 |k|
unfoldable pub quadric_reach : Node → ℤ
quadric_reach node =
    pos 1125899906842624 *ℤ (absℤ node.sx +ℤ absℤ node.sy +ℤ absℤ node.sz)
    +ℤ pos 137438953472 *ℤ (absℤ node.lx +ℤ absℤ node.ly +ℤ absℤ node.lz)
    +ℤ pos 16777216 *ℤ absℤ node.k

-- ---- the form on the piece of middle m and half-width r

-- the square of a form
unfoldable pub square_of : Form → Form
square_of u = product_of u u

-- a number that changes evenly along the piece: its value at the middle, and its change from there to the end
abbrev pub line_of : (middle change : ℤ) → Form
line_of middle change = record { u0 = middle; u1 = change; u2 = pos 0 }

-- DX, DY, DZ
abbrev pub form_x : Leg → Node → (m r : ℤ) → Form
form_x leg node m r = line_of (offset_x leg node m (pos 1)) ((leg.end.x -ℤ leg.start.x) *ℤ r)

abbrev pub form_y : Leg → Node → (m r : ℤ) → Form
form_y leg node m r = line_of (offset_y leg node m (pos 1)) ((leg.end.y -ℤ leg.start.y) *ℤ r)

abbrev pub form_z : Leg → Node → (m r : ℤ) → Form
form_z leg node m r = line_of (offset_z leg node m (pos 1)) ((leg.end.z -ℤ leg.start.z) *ℤ r)

-- sx DX² + sy DY² + sz DZ² + 4096 (lx DX + ly DY + lz DZ) + 2^24 k in forms
unfoldable pub quadric_form : Leg → Node → (m r : ℤ) → Form
quadric_form leg node m r =
    shifted_by (pos 16777216 *ℤ node.k)
    (sum_of
    (sum_of
    (sum_of (scaled_by node.sx (square_of (form_x leg node m r))) (scaled_by node.sy (square_of (form_y leg node m r))))
    (scaled_by node.sz (square_of (form_z leg node m r))))
    (scaled_by (pos 4096)
    (sum_of (sum_of (scaled_by node.lx (form_x leg node m r)) (scaled_by node.ly (form_y leg node m r))) (scaled_by node.lz (form_z leg node m r)))))
