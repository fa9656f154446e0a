-- Forms on a piece of a leg are the forms of the nodes there, and none is too large.
use Rattle.std.specs.Prelude.{◌≡◌, ℕ, ◌<◌, List, length, ℤ, pos, negsuc, ◌-ℤ◌, ◌*ℤ◌, refl}
use Rattle.std.proofs.Common.{sym, ap, subst, ◌∙◌}
use Rattle.integer.proofs.Ring.{ring, ◌:+◌, ◌:-◌, ◌:*◌, con, ◌:=◌}
use Rattle.leg.specs.declared.shapes.Leg.{Leg}
use Rattle.leg.specs.declared.shapes.Piece.{Piece}
use Rattle.leg.specs.Places.{coordinate}
use Rattle.affine.specs.declared.Form.{Form}
use Rattle.affine.specs.Forms.{sum_of, shifted_by, opposite_of, lesser_of, greater_of}
use Rattle.affine.specs.Holding.{Holds}
use Rattle.affine.proofs.Ends.{same_form}
use Rattle.affine.proofs.Holding.{holds_sum, holds_opposite}
use Rattle.affine.proofs.Choosing.{holds_lesser, holds_greater}
use Rattle.nodes.specs.declared.node.Node.{Node}
use Rattle.nodes.specs.Tables.{Algebra, result_of}
use Rattle.nodes.specs.Quadrics.{line_of, quadric_form, quadric_value}
use Rattle.nodes.specs.Meanings.{Value, values, forms, form_of, zero_form}
use Rattle.nodes.specs.Formed.{InRange, WellFormed}
use Rattle.nodes.specs.Locations.{algebra, affine_axes, affine_axis, affine_quadric, affine_operations, AffineFits, AffineHolds}
use Rattle.nodes.specs.TablesLemmas.{Related}
use Rattle.nodes.specs.QuadricsLemmas.{line_axis, axis_form, form_in_parts, quadric_lawful}
use Rattle.nodes.specs.Every.{piece_spans, ends_within, meaning, node_lawful, form_is, within_reach_limit}

axis_is : (a b c s l m r : ℤ) → affine_axis (line_of (coordinate a b m (pos 1)) ((b -ℤ a) *ℤ r)) c s l ≡ axis_form a b c s l m r
unfolding affine_axis
axis_is a b c s l m r =
    ap (λ (x : ℤ). line_axis x ((b -ℤ a) *ℤ r) s l) (ring 2 (λ x c. x :+ con (negsuc 4095) :* c := x :- con (pos 4096) :* c :* con (pos 1)) refl (coordinate a b m (pos 1)) c)

shifted_is : (k : ℤ) (u : Form) → shifted_by k u ≡ sum_of u (line_of k (pos 0))
shifted_is k u = same_form refl (ring 1 (λ x. x := x :+ con (pos 0)) refl u.u1) (ring 1 (λ x. x := x :+ con (pos 0)) refl u.u2)

module _ (leg : Leg) (piece : Piece) where
  pub affine_quadric_is : (node : Node) → affine_quadric (affine_axes leg piece) node ≡ quadric_form leg node (pos piece.middle) (pos piece.half)
  affine_quadric_is node =
      shifted_is (pos 16777216 *ℤ node.k) _
      ∙ (λ i. sum_of (sum_of (sum_of
      (axis_is leg.start.x leg.end.x node.px node.sx node.lx (pos piece.middle) (pos piece.half) i)
      (axis_is leg.start.y leg.end.y node.py node.sy node.ly (pos piece.middle) (pos piece.half) i))
      (axis_is leg.start.z leg.end.z node.pz node.sz node.lz (pos piece.middle) (pos piece.half) i))
      (line_of (pos 16777216 *ℤ node.k) (pos 0)))
      ∙ form_in_parts leg node (pos piece.middle) (pos piece.half)

  pub affine_quadric_holds : (node : Node) → InRange node → AffineHolds piece (affine_quadric (affine_axes leg piece) node) (λ p q. quadric_value leg node p q)
  affine_quadric_holds node range p q on =
      subst (λ (u : Form). Holds (pos piece.middle) (pos piece.half) p q u (quadric_value leg node p q) (q *ℤ q)) (sym (affine_quadric_is node))
      ((quadric_lawful leg node range).holds (pos piece.middle) (pos piece.half) p q on)

  -- forms that hold values, combined, hold the combined value
  pub affine_related : Related (algebra affine_operations (affine_axes leg piece)) (values leg) (λ (u : Form) (F : Value). AffineHolds piece u F)
  affine_related = record {
    quadric = affine_quadric_holds;
    sum = λ u v F G h k p q on. holds_sum (pos piece.middle) (pos piece.half) p q u v (F p q) (G p q) (q *ℤ q) (h p q on) (k p q on);
    lesser = λ u v F G h k p q on. holds_lesser (pos piece.middle) (pos piece.half) p q on u v (F p q) (G p q) (q *ℤ q) (h p q on) (k p q on);
    greater = λ u v F G h k p q on. holds_greater (pos piece.middle) (pos piece.half) p q on u v (F p q) (G p q) (q *ℤ q) (h p q on) (k p q on);
    opposite = λ u F h p q on. holds_opposite (pos piece.middle) (pos piece.half) p q u (F p q) (q *ℤ q) (h p q on);
  }

  -- the arithmetic's algebra is the one that defines the forms
  pub affine_algebra : algebra affine_operations (affine_axes leg piece) ≡ forms leg (pos piece.middle) (pos piece.half)
  affine_algebra = λ i. record {
    quadric = λ node. affine_quadric_is node i;
    sum = λ u v. sum_of u v;
    lesser = λ u v. lesser_of u v;
    greater = λ u v. greater_of u v;
    opposite = λ u. opposite_of u;
    unknown = zero_form;
  }

  module _ (nodes : List Node) (formed : WellFormed nodes) where
    pub form_small : (i : ℕ) → i < length nodes → AffineFits (form_of leg nodes i (pos piece.middle) (pos piece.half))
    form_small i i< =
        subst AffineFits (form_is nodes formed leg i i< (pos piece.middle) (pos piece.half))
        (ends_within (meaning nodes formed leg i) (node_lawful nodes formed leg i i<) (pos piece.middle) (pos piece.half) (piece_spans piece.middle piece.half piece.made) (within_reach_limit nodes formed leg i i<))

    pub affine_result_is : (i : ℕ) → result_of (algebra affine_operations (affine_axes leg piece)) nodes i ≡ form_of leg nodes i (pos piece.middle) (pos piece.half)
    affine_result_is i = ap (λ (al : Algebra Form). result_of al nodes i) affine_algebra

    pub affine_small : (i : ℕ) → i < length nodes → AffineFits (result_of (algebra affine_operations (affine_axes leg piece)) nodes i)
    affine_small i i< = subst AffineFits (sym (affine_result_is i)) (form_small i i<)
