use Rattle.std.proofs.Common.{◌≡◌, ℕ, ◌<◌, length, get_or, sym, ap, ◌∙◌, subst, arith, length-set}
use Rattle.affine.specs.declared.Form.{Form}
use Rattle.nodes.specs.declared.axes.Axes.{Axes}
use Rattle.nodes.specs.declared.node.Shape.TheVariants.{Quadric, Sum, Union, Common, Outside}
use Rattle.nodes.specs.Tables.{Algebra, result_of}
use Rattle.nodes.specs.Meanings.{Value, values, zero_form}
use Rattle.nodes.specs.Formed.{no_node}
use Rattle.nodes.specs.Locations.{algebra}
use Rattle.nodes.specs.TablesLemmas.{related_results}
use Rattle.nodes.proofs.Steps.{next_is, small_needed, small_next, stored_entry}
use Rattle.nodes.proofs.list.Nodes.evaluate.Goals as goal

pub sum-requires : goal.sum-requires
sum-requires g c =
    let nodes = c.args.self.now.all.now in let formed = c.args.self.now.formed in let met = g.met.R.Arithmetic in
    let al : Algebra Form = algebra g.R.Arithmetic.operations (g.R.Arithmetic.axes_at c.args.leg.now c.args.at.now) in
    let small = met.all_small nodes formed c.args.leg.now c.args.at.now in
    let both = small_needed al nodes formed c.loop-i.out c.loop-i.i c.loop-i-test.true c.loop-i.invariant.1 g.R.Arithmetic.small small (Sum c.in-Sum.a c.in-Sum.b) c.in-Sum.ensures in
    (both.0, (both.1, small_next al nodes formed c.loop-i.out c.loop-i.i c.loop-i-test.true c.loop-i.invariant.1 g.R.Arithmetic.small small (Sum c.in-Sum.a c.in-Sum.b) c.in-Sum.ensures))

pub lesser-requires : goal.lesser-requires
lesser-requires g c =
    let nodes = c.args.self.now.all.now in let formed = c.args.self.now.formed in let met = g.met.R.Arithmetic in
    let al : Algebra Form = algebra g.R.Arithmetic.operations (g.R.Arithmetic.axes_at c.args.leg.now c.args.at.now) in
    small_needed al nodes formed c.loop-i.out c.loop-i.i c.loop-i-test.true c.loop-i.invariant.1 g.R.Arithmetic.small (met.all_small nodes formed c.args.leg.now c.args.at.now)
    (Union c.in-Union.a c.in-Union.b) c.in-Union.ensures

pub greater-requires : goal.greater-requires
greater-requires g c =
    let nodes = c.args.self.now.all.now in let formed = c.args.self.now.formed in let met = g.met.R.Arithmetic in
    let al : Algebra Form = algebra g.R.Arithmetic.operations (g.R.Arithmetic.axes_at c.args.leg.now c.args.at.now) in
    small_needed al nodes formed c.loop-i.out c.loop-i.i c.loop-i-test.true c.loop-i.invariant.1 g.R.Arithmetic.small (met.all_small nodes formed c.args.leg.now c.args.at.now)
    (Common c.in-Common.a c.in-Common.b) c.in-Common.ensures

pub opposite-requires : goal.opposite-requires
opposite-requires g c =
    let nodes = c.args.self.now.all.now in let formed = c.args.self.now.formed in let met = g.met.R.Arithmetic in
    let al : Algebra Form = algebra g.R.Arithmetic.operations (g.R.Arithmetic.axes_at c.args.leg.now c.args.at.now) in
    small_needed al nodes formed c.loop-i.out c.loop-i.i c.loop-i-test.true c.loop-i.invariant.1 g.R.Arithmetic.small (met.all_small nodes formed c.args.leg.now c.args.at.now)
    (Outside c.in-Outside.a) c.in-Outside.ensures

pub loop-i-preserved : goal.loop-i-preserved
loop-i-preserved g c =
    let nodes = c.args.self.now.all.now in let formed = c.args.self.now.formed in let i = c.loop-i.i in let taken = c.loop-i-test.true in
    let inv = c.loop-i.invariant in let out = c.loop-i.out in
    let al : Algebra Form = algebra g.R.Arithmetic.operations (g.R.Arithmetic.axes_at c.args.leg.now c.args.at.now) in
    let inside : i < length c.loop-i.out = omega (arith, c.loop-i-test.true, inv.0, c.args.self.now.few) in
    let next = next_is al nodes formed out i taken inv.1 in
    let here : c.match-shape.out ≡ result_of al nodes i =
    elim c.match-shape.branch [
      | goal.in-Quadric w ↦ w.out-is ∙ w.quadric.ensures ∙ ap (λ (axes : Axes). g.R.Arithmetic.operations.quadric axes (get_or nodes i no_node)) c.axes-axes.ensures.value ∙ next Quadric w.in-Quadric.ensures
      | goal.in-Sum w ↦ w.out-is ∙ w.sum.ensures ∙ next (Sum w.in-Sum.a w.in-Sum.b) w.in-Sum.ensures
      | goal.in-Union w ↦ w.out-is ∙ w.lesser.ensures ∙ next (Union w.in-Union.a w.in-Union.b) w.in-Union.ensures
      | goal.in-Common w ↦ w.out-is ∙ w.greater.ensures ∙ next (Common w.in-Common.a w.in-Common.b) w.in-Common.ensures
      | goal.in-Outside w ↦ w.out-is ∙ w.opposite.ensures ∙ next (Outside w.in-Outside.a) w.in-Outside.ensures
    ] in
    (simp length-set inv.0, stored_entry al nodes out i c.match-shape.out inside inv.1 here)

pub returns : goal.returns
returns g c =
    let nodes = c.args.self.now.all.now in let leg = c.args.leg.now in let spot = c.args.at.now in
    let al : Algebra Form = algebra g.R.Arithmetic.operations (g.R.Arithmetic.axes_at c.args.leg.now c.args.at.now) in
    let met = g.met.R.Arithmetic in
    let left : length c.args.self.now.all.now ≡ c.loop-i.i = omega (arith, c.loop-i-test.false, c.loop-i.auto.i-end) in
    let value : (i : ℕ) → i < length nodes → get_or c.loop-i.out i zero_form ≡ result_of al nodes i = λ i i<. c.loop-i.invariant.1 i (omega arith) in
    record {
      value = value;
      held = λ i i<.
          subst (λ (u : Form). g.R.Arithmetic.holds spot u (result_of (values leg) nodes i)) (sym (value i i<))
          (related_results nodes c.args.self.now.formed al (values leg) (λ (u : Form) (F : Value). g.R.Arithmetic.holds spot u F) (met.holding leg spot) i i<);
    }
