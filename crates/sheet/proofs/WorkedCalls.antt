-- The worked calls, computed.
use Rattle.std.proofs.Common.{refl}
use Rattle.affine.specs.Forms.{product_of, lesser_of}
use Rattle.leg_check.specs.Halving.{examine_of}
use Rattle.nodes.specs.Quadrics.{quadric_value, quadric_reach, square_of, quadric_form}
use Rattle.nodes.specs.Tables.{work}
use Rattle.sheet.specs.Worked.{WorkedSheet}

pub worked_sheet : WorkedSheet
unfolding product_of lesser_of examine_of quadric_value quadric_reach square_of quadric_form work
worked_sheet = record { answers = refl; none_on = λ leg. refl }
