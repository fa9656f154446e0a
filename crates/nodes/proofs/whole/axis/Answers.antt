use Rattle.integer.proofs.Machine.{fits, within, is_stored}
use Rattle.nodes.proofs.WholeQuadric.{is_square, is_bent, is_straight, is_axis}
use Rattle.nodes.proofs.whole.axis.Goals as goal

pub overflow_mul-result : goal.overflow_mul-result
overflow_mul-result c = fits (is_square c.args.x c.args.p c.args.s c.args.l c.requires.0 c.requires.1.0 c.requires.1.1.0 c.requires.1.1.1) tt

pub overflow_mul-result-2 : goal.overflow_mul-result-2
overflow_mul-result-2 c = fits (is_bent c.args.x c.args.p c.args.s c.args.l c.requires.0 c.requires.1.0 c.requires.1.1.0 c.requires.1.1.1) tt

pub overflow_mul-result-4 : goal.overflow_mul-result-4
overflow_mul-result-4 c = fits (is_straight c.args.x c.args.p c.args.s c.args.l c.requires.0 c.requires.1.0 c.requires.1.1.0 c.requires.1.1.1) tt

pub overflow_add-result : goal.overflow_add-result
overflow_add-result c = fits (is_axis c.args.x c.args.p c.args.s c.args.l c.requires.0 c.requires.1.0 c.requires.1.1.0 c.requires.1.1.1) tt

pub returns : goal.returns
returns c =
    let a = is_stored (is_axis c.args.x c.args.p c.args.s c.args.l c.requires.0 c.requires.1.0 c.requires.1.1.0 c.requires.1.1.1) tt in
    record { value = a.same; small = within a tt }
