-- What is answered to the calls, in the numbers of the rules.
use Rattle.std.specs.Prelude.{ℕ, ◌-◌, cond, List, [], ◌∷◌, length, Ok, Err, Result, ◌==◌, unsigned_abs}
use Rattle.refusal.specs.declared.Refusal.{Refusal}
use Rattle.refusal.specs.Numbers.{number_of}
use Rattle.field.specs.Meaning.{Meaning}
use Rattle.leg_check.specs.declared.verdict.Verdict.{Verdict}
use Rattle.leg_check.specs.Promise.{Row, row_of}
use Rattle.leg_check.specs.Outcome.{outcome_of}
use Rattle.areas.specs.Fields.{field_over}
use Rattle.sheet.specs.declared.call.Call.{Call}
use Rattle.sheet.specs.declared.call.Call.TheVariants.{Add, TakeBack, Publish, Switch, Strike, Check}
use Rattle.sheet.specs.declared.call.Success.{Success}
use Rattle.sheet.specs.declared.call.Success.TheVariants.{Taken, Checked}
use Rattle.sheet.specs.Calls.{SheetData, call_refusal, after}

-- the number of a node or an area, the number of a refusal, or what a check found
pub data Answer : Type 0 where
  taken : ℕ → Answer
  refused : ℕ → Answer
  checked : Row → Answer

-- ---- what the code answers, as an answer

abbrev pub told : Result ℕ Refusal → Answer
told (Ok number) = taken number
told (Err refusal) = refused (number_of refusal)

abbrev pub found : Result Verdict Refusal → Answer
found (Ok verdict) = checked (row_of verdict)
found (Err refusal) = refused (number_of refusal)

abbrev pub replied : Result Success Refusal → Answer
replied (Ok (Taken number)) = taken number
replied (Ok (Checked verdict)) = checked (row_of verdict)
replied (Err refusal) = refused (number_of refusal)

-- ---- what the rules answer

-- the number that a call answers when it is taken: the node's or the area's
abbrev pub number_for : SheetData → Call → ℕ
number_for sheet (Add node) = length sheet.nodes
number_for sheet TakeBack = length sheet.nodes - 1
number_for sheet (Publish area node on) = unsigned_abs area
number_for sheet (Switch area on) = unsigned_abs area
number_for sheet (Strike area) = unsigned_abs area
number_for sheet (Check start end) = 0

-- of a call that is no check
abbrev pub done : SheetData → Call → Answer
done sheet call = cond (call_refusal sheet call == 0) (taken (number_for sheet call)) (refused (call_refusal sheet call))

-- the field of a sheet: the constant 2^60 joined with each area that is on
abbrev pub field_of : SheetData → Meaning
field_of sheet = field_over sheet.nodes sheet.slots

abbrev pub outcome : Result Verdict ℕ → Answer
outcome (Ok verdict) = checked (row_of verdict)
outcome (Err number) = refused number

abbrev pub answer_of : SheetData → Call → Answer
answer_of sheet (Add node) = done sheet (Add node)
answer_of sheet TakeBack = done sheet TakeBack
answer_of sheet (Publish area node on) = done sheet (Publish area node on)
answer_of sheet (Switch area on) = done sheet (Switch area on)
answer_of sheet (Strike area) = done sheet (Strike area)
answer_of sheet (Check start end) = outcome (outcome_of start end (field_of sheet))

-- the answers to a list of calls, each on the sheet that those before it left
abbrev pub answers_to : SheetData → List Call → List Answer
answers_to sheet [] = []
answers_to sheet (call ∷ calls) = answer_of sheet call ∷ answers_to (after sheet call) calls
