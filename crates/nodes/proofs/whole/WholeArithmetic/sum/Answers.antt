use Rattle.std.proofs.Common.{ap, ◌∙◌}
use Rattle.integer.proofs.Machine.{is, is_stored, is_sum}
use Rattle.nodes.specs.Locations.{whole}
use Rattle.nodes.proofs.whole.WholeArithmetic.sum.Goals as goal

pub returns : goal.returns
returns c = c.number.ensures ∙ ap whole (is_stored (is_sum (is_stored (is c.requires.0) tt) (is_stored (is c.requires.1.0) tt)) tt).same
