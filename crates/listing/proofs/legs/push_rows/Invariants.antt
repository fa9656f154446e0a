use Rattle.std.proofs.Common.{◌≡◌, ◌-◌, ◌++◌, length, vec_items}
use Rattle.table.specs.Left.{left_of}
use Rattle.sheet.specs.Held.{data_of}
use Rattle.listing.specs.Rows.{rows_text}
use Rattle.listing.specs.Ground.{joint_of}
use Rattle.listing.proofs.legs.push_rows.Given as goal

-- what is written and what is left to be read make the whole, and end the same
abbrev pub invariant-loop-row : goal.invariant-loop-row
invariant-loop-row l = record {
  table : l.rows.table ≡ l.initial.rows.table;
  stop : (left_of l.rows.rows).stop ≡ (left_of l.initial.rows.rows).stop;
  text : vec_items l.out ++ rows_text (joint_of l.lattice) (data_of l.sheet) (l.rows.rows.line - 1) (left_of l.rows.rows).rows
      ≡ vec_items l.initial.out ++ rows_text (joint_of l.lattice) (data_of l.sheet) (l.initial.rows.rows.line - 1) (left_of l.initial.rows.rows).rows;
}

abbrev pub decreases-loop-row : goal.decreases-loop-row
decreases-loop-row l = length (left_of l.rows.rows).rows
