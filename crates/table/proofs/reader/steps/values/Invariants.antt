use Rattle.std.proofs.Common.{length}
use Rattle.table.specs.Text.{fields}
use Rattle.table.proofs.Values.{Read}
use Rattle.table.proofs.reader.steps.values.Given as goal

abbrev pub invariant-loop-place : goal.invariant-loop-place
invariant-loop-place l =
    (goal.iterator-loop-place).can_next l.place-iterator
    × (goal.iterator-loop-place).is_finite l.place-iterator
    × Read (length l.yielded) l.found (fields l.line)
