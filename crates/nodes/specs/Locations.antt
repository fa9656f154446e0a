-- Coordinates at a location, and the two arithmetics' quadrics from them.
use Rattle.std.specs.Prelude.{◌≡◌, ℤ, pos, negsuc, ◌+ℤ◌, ◌-ℤ◌, ◌*ℤ◌, neg_ℤ}
use Rattle.std.specs.Int.{int_min, int_max}
use Rattle.integer.specs.Numbers.{Within}
use Rattle.leg.specs.declared.shapes.Leg.{Leg}
use Rattle.leg.specs.declared.shapes.HalfStep.{HalfStep}
use Rattle.leg.specs.declared.shapes.Piece.{Piece}
use Rattle.leg.specs.Places.{coordinate, On}
use Rattle.affine.specs.declared.Form.{Form}
use Rattle.affine.specs.Forms.{sum_of, opposite_of, lesser_of, greater_of, scaled_by, shifted_by}
use Rattle.affine.specs.Fits.{Bounded, EndsWithin}
use Rattle.affine.specs.Holding.{Holds}
use Rattle.nodes.specs.declared.node.Node.{Node}
use Rattle.nodes.specs.declared.axes.Axes.{Axes}
use Rattle.nodes.specs.Tables.{Algebra}
use Rattle.nodes.specs.Quadrics.{square_of, line_of}
use Rattle.nodes.specs.Meanings.{Value, zero_form}

-- no coordinate is above 2^24, and none changes by more along the piece
pub record AxesBounded (axes : Axes) : Type 0 where
  pub x_in : Bounded 16777216 axes.x
  pub y_in : Bounded 16777216 axes.y
  pub z_in : Bounded 16777216 axes.z

-- how an arithmetic computes
pub record Operations : Type 0 where
  pub quadric : Axes → Node → Form
  pub sum : Form → Form → Form
  pub lesser : Form → Form → Form
  pub greater : Form → Form → Form
  pub opposite : Form → Form

-- the algebra of an arithmetic, where these are the coordinates
abbrev pub algebra : Operations → Axes → Algebra Form
algebra by axes = record { quadric = by.quadric axes; sum = by.sum; lesser = by.lesser; greater = by.greater; opposite = by.opposite; unknown = zero_form }

-- ---- whole numbers at a half-step: a form whose other two numbers are 0

abbrev pub whole : ℤ → Form
whole z = record { u0 = z; u1 = pos 0; u2 = pos 0 }

abbrev pub whole_axes : Leg → HalfStep → Axes
whole_axes leg step = record {
  x = whole (coordinate leg.start.x leg.end.x (pos step.at) (pos 1));
  y = whole (coordinate leg.start.y leg.end.y (pos step.at) (pos 1));
  z = whole (coordinate leg.start.z leg.end.z (pos step.at) (pos 1));
}

-- s D² + 4096 l D, where D = x − 4096 c
abbrev pub whole_axis : (x c s l : ℤ) → ℤ
whole_axis x c s l = s *ℤ ((x -ℤ pos 4096 *ℤ c) *ℤ (x -ℤ pos 4096 *ℤ c)) +ℤ pos 4096 *ℤ l *ℤ (x -ℤ pos 4096 *ℤ c)

abbrev pub whole_quadric : Axes → Node → Form
whole_quadric axes node =
    whole (whole_axis axes.x.u0 node.px node.sx node.lx +ℤ whole_axis axes.y.u0 node.py node.sy node.ly +ℤ whole_axis axes.z.u0 node.pz node.sz node.lz
    +ℤ pos 16777216 *ℤ node.k)

abbrev pub whole_sum : Form → Form → Form
whole_sum u v = whole (u.u0 +ℤ v.u0)

abbrev pub whole_lesser : Form → Form → Form
whole_lesser u v = whole (int_min u.u0 v.u0)

abbrev pub whole_greater : Form → Form → Form
whole_greater u v = whole (int_max u.u0 v.u0)

abbrev pub whole_opposite : Form → Form
whole_opposite u = whole (neg_ℤ u.u0)

abbrev pub whole_operations : Operations
whole_operations = record { quadric = whole_quadric; sum = whole_sum; lesser = whole_lesser; greater = whole_greater; opposite = whole_opposite }

-- within 2^60
abbrev pub WholeFits : Form → Type 0
WholeFits u = Within u.u0 (pos 1152921504606846976)

-- the number is F(s, 1) at the half-step s
abbrev pub WholeHolds : HalfStep → Form → Value → Type 0
WholeHolds step u F = u ≡ whole (F (pos step.at) (pos 1))

-- ---- forms on a piece

abbrev pub affine_axes : Leg → Piece → Axes
affine_axes leg piece = record {
  x = line_of (coordinate leg.start.x leg.end.x (pos piece.middle) (pos 1)) ((leg.end.x -ℤ leg.start.x) *ℤ pos piece.half);
  y = line_of (coordinate leg.start.y leg.end.y (pos piece.middle) (pos 1)) ((leg.end.y -ℤ leg.start.y) *ℤ pos piece.half);
  z = line_of (coordinate leg.start.z leg.end.z (pos piece.middle) (pos 1)) ((leg.end.z -ℤ leg.start.z) *ℤ pos piece.half);
}

-- s D² + 4096 l D, where D = x − 4096 c
unfoldable pub affine_axis : (x : Form) (c s l : ℤ) → Form
affine_axis x c s l = sum_of (scaled_by s (square_of (shifted_by (negsuc 4095 *ℤ c) x))) (scaled_by (pos 4096 *ℤ l) (shifted_by (negsuc 4095 *ℤ c) x))

abbrev pub affine_quadric : Axes → Node → Form
affine_quadric axes node =
    shifted_by (pos 16777216 *ℤ node.k)
    (sum_of (sum_of (affine_axis axes.x node.px node.sx node.lx) (affine_axis axes.y node.py node.sy node.ly)) (affine_axis axes.z node.pz node.sz node.lz))

abbrev pub affine_operations : Operations
affine_operations = record { quadric = affine_quadric; sum = λ u v. sum_of u v; lesser = lesser_of; greater = greater_of; opposite = λ u. opposite_of u }

-- both ends within 2^61
abbrev pub AffineFits : Form → Type 0
AffineFits u = EndsWithin 2305843009213693952 u

-- the form holds F(p, q) / q² at every place of the piece
abbrev pub AffineHolds : Piece → Form → Value → Type 0
AffineHolds piece u F = (p q : ℤ) → On piece p q → Holds (pos piece.middle) (pos piece.half) p q u (F p q) (q *ℤ q)
