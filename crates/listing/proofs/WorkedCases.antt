-- The worked cases, computed.
use Rattle.std.proofs.Common.{◌≡◌, [], refl}
use Rattle.std.specs.Fmt.{digits}
use Rattle.affine.specs.Forms.{product_of, lesser_of, greater_of}
use Rattle.affine.specs.Worked.{WorkedForms}
use Rattle.leg_check.specs.Halving.{examine_of}
use Rattle.nodes.specs.Quadrics.{quadric_value, quadric_reach, square_of, quadric_form}
use Rattle.nodes.specs.Tables.{work}
use Rattle.lattice.proofs.Worked.{worked_terrain}
use Rattle.sheet.proofs.WorkedCalls.{worked_sheet}
use Rattle.listing.specs.Listing.{listing_of}
use Rattle.listing.specs.Worked.{nodes_file, areas_file, legs_file, rows_of_four, Worked}

four_rows : (listing_of nodes_file areas_file [] legs_file).text ≡ rows_of_four
unfolding digits product_of lesser_of examine_of quadric_value quadric_reach square_of quadric_form work
four_rows = refl

worked_forms : WorkedForms
unfolding product_of lesser_of greater_of
worked_forms = (refl, refl, refl, refl, refl)

pub worked_cases : Worked
worked_cases = record { forms = worked_forms; terrain = worked_terrain; sheet = worked_sheet; half = refl; minus_half = refl; listing = four_rows }
