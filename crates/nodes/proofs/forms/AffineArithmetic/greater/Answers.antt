use Rattle.affine.proofs.Fitting.{greater_fits}
use Rattle.nodes.proofs.forms.AffineArithmetic.greater.Goals as goal

pub greater-requires : goal.greater-requires
greater-requires c = greater_fits 2305843009213693952 c.args.u c.args.v c.requires.0 c.requires.1 tt tt
