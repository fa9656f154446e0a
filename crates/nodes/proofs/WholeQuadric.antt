-- One axis of a quadric, and the quadric, in 64 bits: each step's number and bound, as the code's expressions go.
use Rattle.std.proofs.Common.{◌≡◌, ℤ, pos, ◌+ℤ◌, ◌-ℤ◌, ◌*ℤ◌, ◌∙◌}
use Rattle.integer.specs.Numbers.{Within}
use Rattle.integer.proofs.Machine.{Is, stored, is, is_of, is_numeral, is_stored, is_sum, is_difference, is_product}
use Rattle.nodes.specs.declared.node.Node.{Node}
use Rattle.nodes.specs.declared.axes.Axes.{Axes}
use Rattle.nodes.specs.Formed.{InRange}
use Rattle.nodes.specs.Locations.{AxesBounded, whole_axis}
use Rattle.nodes.specs.Numbers.{height_in}

module _ (x p s l : ℤ) (x_in : Within x (pos 16777216)) (p_in : Within p (pos 4096)) (s_in : Within s (pos 16)) (l_in : Within l (pos 4096)) where
  abbrev d : ℤ
  d = stored (stored x -ℤ stored (pos 4096 *ℤ stored p))

  is_d : Is (stored (stored x -ℤ stored (pos 4096 *ℤ stored p))) (x -ℤ pos 4096 *ℤ p) 33554432
  is_d = is_stored (is_difference (is_stored (is x_in) tt) (is_stored (is_product (is_numeral 4096) (is_stored (is p_in) tt)) tt)) tt

  pub is_square : Is (d *ℤ d) ((x -ℤ pos 4096 *ℤ p) *ℤ (x -ℤ pos 4096 *ℤ p)) 1125899906842624
  is_square = is_product is_d is_d

  pub is_bent : Is (stored s *ℤ stored (d *ℤ d)) (s *ℤ ((x -ℤ pos 4096 *ℤ p) *ℤ (x -ℤ pos 4096 *ℤ p))) 18014398509481984
  is_bent = is_product (is_stored (is s_in) tt) (is_stored is_square tt)

  pub is_straight : Is (stored (pos 4096 *ℤ stored l) *ℤ d) (pos 4096 *ℤ l *ℤ (x -ℤ pos 4096 *ℤ p)) 562949953421312
  is_straight = is_product (is_stored (is_product (is_numeral 4096) (is_stored (is l_in) tt)) tt) is_d

  pub is_axis : Is (stored (stored s *ℤ stored (d *ℤ d)) +ℤ stored (stored (pos 4096 *ℤ stored l) *ℤ d)) (whole_axis x p s l) 18577348462903296
  is_axis = is_sum (is_stored is_bent tt) (is_stored is_straight tt)

  -- what a call with stored arguments answers
  pub is_answer : {r : ℤ} → r ≡ whole_axis (stored x) (stored p) (stored s) (stored l) → Within r (pos 18577348462903296) → Is r (whole_axis x p s l) 18577348462903296
  is_answer e small =
      is_of (e ∙ (λ i. whole_axis ((is_stored (is x_in) tt).same i) ((is_stored (is p_in) tt).same i) ((is_stored (is s_in) tt).same i) ((is_stored (is l_in) tt).same i))) small

-- the sum of three axes and the constant, from what the three calls answer
module _ (axes : Axes) (node : Node) (at : AxesBounded axes) (k : InRange node) {x y z : ℤ}
    (x_is : x ≡ whole_axis (stored axes.x.u0) (stored node.px) (stored node.sx) (stored node.lx)) (x_in : Within x (pos 18577348462903296))
    (y_is : y ≡ whole_axis (stored axes.y.u0) (stored node.py) (stored node.sy) (stored node.ly)) (y_in : Within y (pos 18577348462903296))
    (z_is : z ≡ whole_axis (stored axes.z.u0) (stored node.pz) (stored node.sz) (stored node.lz)) (z_in : Within z (pos 18577348462903296)) where
  pub is_two : Is (stored x +ℤ stored y) (whole_axis axes.x.u0 node.px node.sx node.lx +ℤ whole_axis axes.y.u0 node.py node.sy node.ly) 37154696925806592
  is_two =
      is_sum (is_stored (is_answer axes.x.u0 node.px node.sx node.lx at.x_in.first k.px_in k.sx_in k.lx_in x_is x_in) tt)
      (is_stored (is_answer axes.y.u0 node.py node.sy node.ly at.y_in.first k.py_in k.sy_in k.ly_in y_is y_in) tt)

  pub is_three : Is (stored (stored x +ℤ stored y) +ℤ stored z)
      (whole_axis axes.x.u0 node.px node.sx node.lx +ℤ whole_axis axes.y.u0 node.py node.sy node.ly +ℤ whole_axis axes.z.u0 node.pz node.sz node.lz) 55732045388709888
  is_three = is_sum (is_stored is_two tt) (is_stored (is_answer axes.z.u0 node.pz node.sz node.lz at.z_in.first (height_in k.pz_from k.pz_to) k.sz_in k.lz_in z_is z_in) tt)

  pub is_four : Is (stored (stored (stored x +ℤ stored y) +ℤ stored z) +ℤ stored (pos 16777216 *ℤ stored node.k))
      (whole_axis axes.x.u0 node.px node.sx node.lx +ℤ whole_axis axes.y.u0 node.py node.sy node.ly +ℤ whole_axis axes.z.u0 node.pz node.sz node.lz +ℤ pos 16777216 *ℤ node.k) 73746443898191872
  is_four = is_sum (is_stored is_three tt) (is_stored (is_product (is_numeral 16777216) (is_stored (is k.k_in) tt)) tt)
