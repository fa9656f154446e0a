use Rattle.std.proofs.Common.{◌≡◌, length}
use Rattle.sheet.specs.Held.{data_of}
use Rattle.table.specs.Left.{left_of}
use Rattle.loading.specs.Loads.{rest_of}
use Rattle.loading.proofs.tables.load_rows.Given as goal

-- what is loaded from here on ends as it did from the start
abbrev pub invariant-loop-row : goal.invariant-loop-row
invariant-loop-row g l = record {
  table : l.rows.table ≡ l.initial.rows.table;
  ends : rest_of g.P.Part.call (data_of l.sheet) l.rows.rows ≡ rest_of g.P.Part.call (data_of l.initial.sheet) l.initial.rows.rows;
}

abbrev pub decreases-loop-row : goal.decreases-loop-row
decreases-loop-row g l = length (left_of l.rows.rows).rows
