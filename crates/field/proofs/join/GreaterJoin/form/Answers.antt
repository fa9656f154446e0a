use Rattle.affine.proofs.Fitting.{greater_fits}
use Rattle.affine.specs.Fits.{end_limit}
use Rattle.field.proofs.join.GreaterJoin.form.Goals as goal

pub greater-requires : goal.greater-requires
greater-requires c = greater_fits end_limit c.args.first c.args.second c.requires.0 c.requires.1 tt tt
