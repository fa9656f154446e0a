-- Whole numbers at a half-step of a leg are the values of the nodes there, and none is too large.
use Rattle.std.specs.Prelude.{◌≡◌, ℕ, ◌<◌, List, length, pos, refl}
use Rattle.std.proofs.Common.{sym, ap, ap₂, subst}
use Rattle.integer.proofs.Ring.{ring, ◌:+◌, ◌:-◌, ◌:*◌, con, ◌:=◌}
use Rattle.integer.proofs.Absolute.{within_same, within_wider}
use Rattle.leg.specs.declared.shapes.Leg.{Leg}
use Rattle.leg.specs.declared.shapes.HalfStep.{HalfStep}
use Rattle.leg.specs.Places.{coordinate}
use Rattle.affine.specs.declared.Form.{Form}
use Rattle.nodes.specs.declared.node.Node.{Node}
use Rattle.nodes.specs.Tables.{result_of}
use Rattle.nodes.specs.Quadrics.{quadric_value}
use Rattle.nodes.specs.Meanings.{Value, values, value_of}
use Rattle.nodes.specs.Formed.{WellFormed}
use Rattle.nodes.specs.Locations.{algebra, whole, whole_axes, whole_quadric, whole_operations, whole_sum, whole_lesser, whole_greater, whole_opposite, WholeFits, WholeHolds}
use Rattle.nodes.specs.TablesLemmas.{Related, related_results}
use Rattle.nodes.specs.Ends.{step_on_leg}
use Rattle.nodes.specs.Every.{every_node_is_lawful}

pub whole_quadric_holds : (leg : Leg) (step : HalfStep) (node : Node) → whole_quadric (whole_axes leg step) node ≡ whole (quadric_value leg node (pos step.at) (pos 1))
unfolding quadric_value
whole_quadric_holds leg step node =
    ap whole (ring 13 (λ sx sy sz lx ly lz x y z px py pz c.
    (sx :* ((x :- con (pos 4096) :* px) :* (x :- con (pos 4096) :* px)) :+ con (pos 4096) :* lx :* (x :- con (pos 4096) :* px))
    :+ (sy :* ((y :- con (pos 4096) :* py) :* (y :- con (pos 4096) :* py)) :+ con (pos 4096) :* ly :* (y :- con (pos 4096) :* py))
    :+ (sz :* ((z :- con (pos 4096) :* pz) :* (z :- con (pos 4096) :* pz)) :+ con (pos 4096) :* lz :* (z :- con (pos 4096) :* pz)) :+ con (pos 16777216) :* c
    := sx :* ((x :- con (pos 4096) :* px :* con (pos 1)) :* (x :- con (pos 4096) :* px :* con (pos 1)))
    :+ sy :* ((y :- con (pos 4096) :* py :* con (pos 1)) :* (y :- con (pos 4096) :* py :* con (pos 1)))
    :+ sz :* ((z :- con (pos 4096) :* pz :* con (pos 1)) :* (z :- con (pos 4096) :* pz :* con (pos 1)))
    :+ con (pos 4096) :* (lx :* (x :- con (pos 4096) :* px :* con (pos 1)) :+ ly :* (y :- con (pos 4096) :* py :* con (pos 1)) :+ lz :* (z :- con (pos 4096) :* pz :* con (pos 1))) :* con (pos 1)
    :+ con (pos 16777216) :* c :* (con (pos 1) :* con (pos 1))) refl
    node.sx node.sy node.sz node.lx node.ly node.lz
    (coordinate leg.start.x leg.end.x (pos step.at) (pos 1)) (coordinate leg.start.y leg.end.y (pos step.at) (pos 1)) (coordinate leg.start.z leg.end.z (pos step.at) (pos 1))
    node.px node.py node.pz node.k)

-- numbers that hold values, combined, hold the combined value
pub whole_related : (leg : Leg) (step : HalfStep) → Related (algebra whole_operations (whole_axes leg step)) (values leg) (λ (u : Form) (F : Value). WholeHolds step u F)
whole_related leg step = record {
  quadric = λ node _. whole_quadric_holds leg step node;
  sum = λ u v F G e f. ap₂ whole_sum e f;
  lesser = λ u v F G e f. ap₂ whole_lesser e f;
  greater = λ u v F G e f. ap₂ whole_greater e f;
  opposite = λ u F e. ap whole_opposite e;
}

module _ (nodes : List Node) (formed : WellFormed nodes) (leg : Leg) (step : HalfStep) where
  -- the whole numbers of a well-formed list at a half-step are the values of its nodes there
  pub whole_results : (i : ℕ) → i < length nodes → WholeHolds step (result_of (algebra whole_operations (whole_axes leg step)) nodes i) (value_of leg nodes i)
  whole_results = related_results nodes formed (algebra whole_operations (whole_axes leg step)) (values leg) (λ (u : Form) (F : Value). WholeHolds step u F) (whole_related leg step)

  pub whole_small : (i : ℕ) → i < length nodes → WholeFits (result_of (algebra whole_operations (whole_axes leg step)) nodes i)
  whole_small i i< =
      let law = every_node_is_lawful nodes formed leg i i< in
      subst WholeFits (sym (whole_results i i<))
      (within_wider (within_same (law.in_reach (pos step.at) (pos 1) (step_on_leg step.at step.within)) refl (ring 1 (λ g. g :* (con (pos 1) :* con (pos 1)) := g) refl _)) law.reach_in_limit)
