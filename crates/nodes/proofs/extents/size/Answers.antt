use Rattle.integer.proofs.Machine.{is, is_stored, is_abs, is_sum}
use Rattle.nodes.proofs.extents.size.Goals as goal

pub returns : goal.returns
returns c =
    (is_stored (is_sum (is_stored (is_sum
    (is_stored (is_abs c.abs.ensures.value (is_stored (is c.requires.0) tt)) tt)
    (is_stored (is_abs c.abs-2.ensures.value (is_stored (is c.requires.1.0) tt)) tt)) tt)
    (is_stored (is_abs c.abs-3.ensures.value (is_stored (is c.requires.1.1) tt)) tt)) tt).same
