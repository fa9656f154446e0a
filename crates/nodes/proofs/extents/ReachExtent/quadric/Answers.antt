use Rattle.integer.proofs.Machine.{fits, within, is, is_stored, is_sum}
use Rattle.nodes.specs.Quadrics.{quadric_reach}
use Rattle.nodes.proofs.ExtentCode.{is_bent, is_straight, is_level}
use Rattle.nodes.proofs.extents.ReachExtent.quadric.Goals as goal

pub size-straight-requires : goal.size-straight-requires
size-straight-requires c = (within (is_stored (is c.requires.lx_in) tt) tt, (within (is_stored (is c.requires.ly_in) tt) tt, within (is_stored (is c.requires.lz_in) tt) tt))

pub overflow_mul-result : goal.overflow_mul-result
overflow_mul-result c = fits (is_bent c.args.node.now c.requires c.size-bent.ensures) tt

pub overflow_mul-result-2 : goal.overflow_mul-result-2
overflow_mul-result-2 c = fits (is_straight c.args.node.now c.requires c.size-straight.ensures) tt

pub overflow_add-result : goal.overflow_add-result
overflow_add-result c =
    let node = c.args.node.now in
    fits (is_sum (is_stored (is_bent node c.requires c.size-bent.ensures) tt) (is_stored (is_straight node c.requires c.size-straight.ensures) tt)) tt

pub overflow_add-result-2 : goal.overflow_add-result-2
overflow_add-result-2 c =
    let node = c.args.node.now in
    fits (is_sum (is_stored (is_sum (is_stored (is_bent node c.requires c.size-bent.ensures) tt) (is_stored (is_straight node c.requires c.size-straight.ensures) tt)) tt)
    (is_stored (is_level node c.requires c.abs.ensures.value) tt)) tt

pub returns : goal.returns
unfolding quadric_reach
returns c =
    let node = c.args.node.now in
    (is_stored (is_sum (is_stored (is_sum (is_stored (is_bent node c.requires c.size-bent.ensures) tt) (is_stored (is_straight node c.requires c.size-straight.ensures) tt)) tt)
    (is_stored (is_level node c.requires c.abs.ensures.value) tt)) tt).same
