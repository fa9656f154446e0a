use Rattle.affine.proofs.Fitting.{sum_fits, ends_bounded}
use Rattle.nodes.proofs.forms.AffineArithmetic.sum.Goals as goal

pub sum-requires : goal.sum-requires
sum-requires c = sum_fits (ends_bounded 2305843009213693952 c.args.u c.requires.0) (ends_bounded 2305843009213693952 c.args.v c.requires.1.0) tt
