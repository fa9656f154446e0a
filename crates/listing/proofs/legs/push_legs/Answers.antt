use Rattle.std.proofs.Common.{vec_items, subst}
use Rattle.table.specs.declared.table.Table.{Table}
use Rattle.files.specs.Errors.{Stops}
use Rattle.table.specs.declared.table.Table.TheVariants.{Legs}
use Rattle.table.specs.Reading.{reading}
use Rattle.files.specs.Rows.{names_of}
use Rattle.table.specs.Left.{left_of}
use Rattle.sheet.specs.Held.{data_of}
use Rattle.listing.specs.Ground.{joint_of}
use Rattle.listing.proofs.RowSteps.{legs_made}
use Rattle.listing.proofs.legs.push_legs.Goals as goal

pub returns : goal.returns
returns c =
    let legs = c.args.legs.now in
    let opened = c.in_ok-rows.ensures in
    let stop = subst (λ (t : Table). Stops t (left_of c.in_ok-rows.rows.rows).stop c.push_rows.result) opened.table c.push_rows.ensures.stop in
    legs_made (joint_of c.args.lattice.now) (data_of c.args.sheet.now) opened.names.0 (names_of Legs legs) (reading Legs legs) (left_of c.in_ok-rows.rows.rows)
    (vec_items c.args.out.now) _ _ c.in_ok-rows.rows.rows.line c.push_rows.result opened.names.1 opened.rows.2 c.in_ok-push_heading.ensures opened.rows.1 stop c.push_rows.ensures.text
