use Rattle.std.proofs.Common.{ℕ, ◌-◌, ◌++◌, vec_items, sym, ap, ◌∙◌}
use Rattle.table.specs.Reading.{Reading}
use Rattle.sheet.specs.Held.{data_of}
use Rattle.listing.specs.Ground.{joint_of}
use Rattle.listing.specs.Rows.{row_text}
use Rattle.listing.proofs.RowSteps.{row_more}
use Rattle.listing.proofs.legs.push_rows.Goals as goal

pub loop-row-preserved : goal.loop-row-preserved
loop-row-preserved c =
    let inv = c.loop-row.invariant in
    let rows = c.loop-row.rows in
    let joint = joint_of c.args.lattice.now in
    let sheet = data_of c.args.sheet.now in
    let read = rw c.in-Some.is at c.in_ok-row.ensures.row in
    let written = c.in_ok-push_row.ensures ∙ ap (λ (n : ℕ). vec_items c.loop-row.out ++ row_text joint sheet (n - 2) c.in-Some.row) c.lines_read-leg.ensures in
    record {
      table = c.in_ok-row.ensures.table ∙ inv.table;
      stop = sym (ap (λ (r : Reading). r.stop) read.0) ∙ inv.stop;
      text = row_more joint sheet rows.rows.line c.next.new.self.rows.line rows.begun read.1 _ _ _ c.in-Some.row _ _ (ap (λ (r : Reading). r.rows) read.0) written inv.text;
    }
