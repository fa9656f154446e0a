use Rattle.affine.proofs.Fitting.{lesser_fits}
use Rattle.nodes.proofs.forms.AffineArithmetic.lesser.Goals as goal

pub lesser-requires : goal.lesser-requires
lesser-requires c = lesser_fits 2305843009213693952 c.args.u c.args.v c.requires.0 c.requires.1 tt tt
