use Rattle.std.proofs.Common.{ap, ◌∙◌}
use Rattle.integer.proofs.Machine.{fits, within, is, is_numeral, is_stored, is_product}
use Rattle.nodes.specs.Locations.{whole}
use Rattle.nodes.specs.Numbers.{height_in}
use Rattle.nodes.proofs.WholeQuadric.{is_two, is_three, is_four}
use Rattle.nodes.proofs.whole.WholeArithmetic.quadric.Goals as goal

pub axis-z-requires : goal.axis-z-requires
axis-z-requires c =
    let k = c.requires.range in
    (within (is_stored (is c.requires.bounded.z_in.first) tt) tt, (within (is_stored (is (height_in k.pz_from k.pz_to)) tt) tt, (within (is_stored (is k.sz_in) tt) tt, within (is_stored (is k.lz_in) tt) tt)))

pub overflow_add-x : goal.overflow_add-x
overflow_add-x c =
    fits (is_two c.args.axes.now c.args.node.now c.requires.bounded c.requires.range
    c.axis-x.ensures.value c.axis-x.ensures.small c.axis-y.ensures.value c.axis-y.ensures.small c.axis-z.ensures.value c.axis-z.ensures.small) tt

pub overflow_add-x-2 : goal.overflow_add-x-2
overflow_add-x-2 c =
    fits (is_three c.args.axes.now c.args.node.now c.requires.bounded c.requires.range
    c.axis-x.ensures.value c.axis-x.ensures.small c.axis-y.ensures.value c.axis-y.ensures.small c.axis-z.ensures.value c.axis-z.ensures.small) tt

pub overflow_mul-node : goal.overflow_mul-node
overflow_mul-node c = fits (is_product (is_numeral 16777216) (is_stored (is c.requires.range.k_in) tt)) tt

pub overflow_add-x-3 : goal.overflow_add-x-3
overflow_add-x-3 c =
    fits (is_four c.args.axes.now c.args.node.now c.requires.bounded c.requires.range
    c.axis-x.ensures.value c.axis-x.ensures.small c.axis-y.ensures.value c.axis-y.ensures.small c.axis-z.ensures.value c.axis-z.ensures.small) tt

pub returns : goal.returns
returns c =
    c.number.ensures ∙ ap whole (is_stored (is_four c.args.axes.now c.args.node.now c.requires.bounded c.requires.range
    c.axis-x.ensures.value c.axis-x.ensures.small c.axis-y.ensures.value c.axis-y.ensures.small c.axis-z.ensures.value c.axis-z.ensures.small) tt).same
