use Rattle.std.proofs.Common.{◌≡◌, ◌-◌}
use Rattle.table.specs.Reading.{row_of}
use Rattle.table.specs.Left.{left_of}
use Rattle.table.proofs.reader.Rows.nth.Given as goal

-- the row wanted is the one that stands as many rows on as turns are left
abbrev pub invariant-loop : goal.invariant-loop
invariant-loop l = row_of l.k (left_of l.initial.self) ≡ row_of (l.k - l.counter) (left_of l.self)
