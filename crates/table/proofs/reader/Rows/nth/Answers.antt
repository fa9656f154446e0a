use Rattle.std.proofs.Common.{◌-◌, ap, ◌∙◌}
use Rattle.table.specs.Reading.{row_of}
use Rattle.table.proofs.Runs.{row_past}
use Rattle.table.proofs.reader.Rows.nth.Goals as goal

pub loop-preserved : goal.loop-preserved
loop-preserved c =
    c.loop.invariant ∙ ap (row_of (c.args.k - c.loop.counter)) c.in_ok-next.ensures.goes
    ∙ row_past c.args.k c.loop.counter c.in_ok-next.field-0 _ c.loop-test.true c.if-is_none.ensures
