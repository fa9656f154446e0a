use Rattle.integer.proofs.Machine.{fits, is, is_numeral, is_stored, is_sum, is_product}
use Rattle.nodes.specs.Quadrics.{quadric_steepness}
use Rattle.nodes.proofs.ExtentCode.{moved_is}
use Rattle.nodes.proofs.extents.SteepnessExtent.quadric.Goals as goal

pub overflow_add-result : goal.overflow_add-result
overflow_add-result c =
    let leg = c.args.self.now.leg in let k = c.requires in
    let bent = moved_is leg (is_stored (is k.sx_in) tt) (is_stored (is k.sy_in) tt) (is_stored (is k.sz_in) tt) c.moved-bent.ensures.value c.moved-bent.ensures.small in
    let straight = moved_is leg (is_stored (is k.lx_in) tt) (is_stored (is k.ly_in) tt) (is_stored (is k.lz_in) tt) c.moved-straight.ensures.value c.moved-straight.ensures.small in
    fits (is_sum (is_stored (is_product (is_numeral 67108864) (is_stored bent tt)) tt) (is_stored (is_product (is_numeral 4096) (is_stored straight tt)) tt)) tt

pub returns : goal.returns
unfolding quadric_steepness
returns c =
    let leg = c.args.self.now.leg in let k = c.requires in
    let bent = moved_is leg (is_stored (is k.sx_in) tt) (is_stored (is k.sy_in) tt) (is_stored (is k.sz_in) tt) c.moved-bent.ensures.value c.moved-bent.ensures.small in
    let straight = moved_is leg (is_stored (is k.lx_in) tt) (is_stored (is k.ly_in) tt) (is_stored (is k.lz_in) tt) c.moved-straight.ensures.value c.moved-straight.ensures.small in
    (is_stored (is_sum (is_stored (is_product (is_numeral 67108864) (is_stored bent tt)) tt) (is_stored (is_product (is_numeral 4096) (is_stored straight tt)) tt)) tt).same
