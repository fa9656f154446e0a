use Rattle.std.proofs.Common.{◌∙◌, ap₂}
use Rattle.integer.proofs.Machine.{within, is, is_numeral, is_stored, is_product}
use Rattle.affine.specs.Forms.{sum_of, shifted_by}
use Rattle.affine.proofs.Fitting.{sum_fits, shifted_fits}
use Rattle.nodes.specs.Locations.{affine_axis}
use Rattle.nodes.specs.Numbers.{height_in}
use Rattle.nodes.proofs.Bounds.{sum_in}
use Rattle.nodes.proofs.forms.AffineArithmetic.quadric.Goals as goal

pub sum-requires : goal.sum-requires
sum-requires c = sum_fits c.axis-x.ensures.bounded c.axis-y.ensures.bounded tt

pub sum-requires-2 : goal.sum-requires-2
sum-requires-2 c = sum_fits (sum_in c.axis-x.ensures.bounded c.axis-y.ensures.bounded c.sum.ensures.value) c.axis-z.ensures.bounded tt

pub shifted-requires : goal.shifted-requires
shifted-requires c =
    shifted_fits (within {l = 18014398509481984} (is_stored (is_product (is_numeral 16777216) (is_stored (is c.requires.range.k_in) tt)) tt) tt)
    (sum_in (sum_in c.axis-x.ensures.bounded c.axis-y.ensures.bounded c.sum.ensures.value) c.axis-z.ensures.bounded c.sum-2.ensures.value)
    tt

pub returns : goal.returns
returns c =
    let k = c.requires.range in let axes = c.args.axes.now in
    let level = is_stored (is_product (is_numeral 16777216) (is_stored (is k.k_in) tt)) tt in
    let x = c.axis-x.ensures.value ∙ (λ i. affine_axis axes.x ((is_stored (is k.px_in) tt).same i) ((is_stored (is k.sx_in) tt).same i) ((is_stored (is k.lx_in) tt).same i)) in
    let y = c.axis-y.ensures.value ∙ (λ i. affine_axis axes.y ((is_stored (is k.py_in) tt).same i) ((is_stored (is k.sy_in) tt).same i) ((is_stored (is k.ly_in) tt).same i)) in
    let z = c.axis-z.ensures.value ∙ (λ i. affine_axis axes.z ((is_stored (is (height_in k.pz_from k.pz_to)) tt).same i) ((is_stored (is k.sz_in) tt).same i) ((is_stored (is k.lz_in) tt).same i)) in
    c.shifted.ensures.value ∙ ap₂ shifted_by level.same (c.sum-2.ensures.value ∙ ap₂ sum_of (c.sum.ensures.value ∙ ap₂ sum_of x y) z)
