use Rattle.std.proofs.Common.{◌≡◌, ◌≤◌, map, length, take, vec_items, vec_len, vec_capacity, fold}
use Rattle.sheet.specs.Calls.{empty_sheet, after}
use Rattle.sheet.specs.Answers.{replied, answers_to}
use Rattle.sheet.specs.Held.{data_of}
use Rattle.sheet.proofs.running.run.Given as goal

abbrev pub invariant-loop-call : goal.invariant-loop-call
invariant-loop-call l =
    (data_of l.sheet ≡ fold after empty_sheet (take l.call-index l.calls))
    × (map replied (vec_items l.replies) ≡ answers_to empty_sheet (take l.call-index l.calls))
    × (vec_len l.replies ≡ l.call-index)
    × (length l.calls ≤ vec_capacity l.replies)
