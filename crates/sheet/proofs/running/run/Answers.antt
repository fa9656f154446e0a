use Rattle.std.proofs.Common.{fold, ap, ◌∙◌, arith, take_all}
use Rattle.sheet.specs.Calls.{empty_sheet, after}
use Rattle.sheet.specs.Answers.{answers_to}
use Rattle.sheet.specs.Held.{data_of}
use Rattle.sheet.proofs.Lists.{sheet_next, answers_next, ran_of}
use Rattle.sheet.proofs.running.run.Goals as goal

pub loop-call-preserved : goal.loop-call-preserved
loop-call-preserved c =
    let calls = c.args.calls.now in
    let i = c.loop-call.call-index in
    let inv = c.loop-call.invariant in (
      sheet_next calls i c.loop-call-test.true (data_of c.loop-call.sheet) _ inv.0 _ c.send.ensures.after,
      answers_next calls i c.loop-call-test.true (data_of c.loop-call.sheet) _ inv.0 _ _ c.send.result inv.1 c.push_reserved.ensures.items c.send.ensures.answer,
      omega arith,
      omega arith,
    )

pub returns : goal.returns
returns c =
    ran_of c.args.calls.now _ _
    (c.loop-call.invariant.0 ∙ ap (fold after empty_sheet) (take_all _ _ c.loop-call-test.false))
    (c.loop-call.invariant.1 ∙ ap (answers_to empty_sheet) (take_all _ _ c.loop-call-test.false))
