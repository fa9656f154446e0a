use Rattle.affine.proofs.Fitting.{lesser_fits}
use Rattle.affine.specs.Fits.{end_limit}
use Rattle.field.proofs.join.LesserJoin.form.Goals as goal

pub lesser-requires : goal.lesser-requires
lesser-requires c = lesser_fits end_limit c.args.first c.args.second c.requires.0 c.requires.1 tt tt
