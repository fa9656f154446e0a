use Rattle.std.proofs.Common.{◌≡◌, ◌++◌, length, vec_items}
use Rattle.std.specs.List.{flat_map}
use Rattle.table.specs.Names.{column_names}
use Rattle.table.specs.Left.{left_of}
use Rattle.report.specs.Report.{row_line}
use Rattle.report.proofs.push_rows.Given as goal

-- what is written and what is left to be read make the whole, and end the same
abbrev pub invariant-loop-row : goal.invariant-loop-row
invariant-loop-row l = record {
  columns : l.columns ≡ length (column_names l.initial.rows.table);
  table : l.rows.table ≡ l.initial.rows.table;
  stop : (left_of l.rows.rows).stop ≡ (left_of l.initial.rows.rows).stop;
  text : vec_items l.out ++ flat_map (row_line l.initial.rows.table) (left_of l.rows.rows).rows ≡ vec_items l.initial.out ++ flat_map (row_line l.initial.rows.table) (left_of l.initial.rows.rows).rows;
}

abbrev pub decreases-loop-row : goal.decreases-loop-row
decreases-loop-row l = length (left_of l.rows.rows).rows
