-- What is written of a list of calls: a line for each, with what was asked and what was answered.
use Rattle.std.specs.Prelude.{ℕ, Bool, true, false, cond, List, ◌++◌, ℤ, codes, decimal, ◌==◌}
use Rattle.std.specs.List.{flat_map, zip}
use Rattle.std.specs.Fmt.{signed_decimal}
use Rattle.leg.specs.declared.shapes.Point.{Point}
use Rattle.leg_check.specs.Promise.{Row}
use Rattle.nodes.specs.Tables.{equals}
use Rattle.sheet.specs.declared.call.Call.{Call}
use Rattle.sheet.specs.declared.call.Call.TheVariants.{Add, TakeBack, Publish, Switch, Strike, Check}
use Rattle.sheet.specs.Calls.{empty_sheet}
use Rattle.sheet.specs.Answers.{Answer, taken, refused, checked, answers_to}
use Rattle.dispatching.specs.declared.line.Ending.{Ending}
use Rattle.dispatching.specs.declared.line.Ending.TheVariants.{Done, Unchanged, MayBeFiled, NotToBeFiled}

-- ---- what was asked

abbrev pub point_text : Point → List ℕ
point_text p = codes "(" ++ (signed_decimal p.x ++ (codes ", " ++ (signed_decimal p.y ++ (codes ", " ++ (signed_decimal p.z ++ codes ")")))))

-- on for 1, off for 0, and any other number as it is
abbrev pub switch_text : ℤ → List ℕ
switch_text on = cond (equals on 1) (codes "on") (cond (equals on 0) (codes "off") (signed_decimal on))

abbrev pub asked : Call → List ℕ
asked (Add node) = codes "add node of kind " ++ signed_decimal node.kind
asked TakeBack = codes "take back the last node"
asked (Publish area node on) = codes "publish area " ++ (signed_decimal area ++ (codes " over node " ++ (signed_decimal node ++ (codes ", " ++ switch_text on))))
asked (Switch area on) = codes "switch area " ++ (signed_decimal area ++ (codes " " ++ switch_text on))
asked (Strike area) = codes "strike area " ++ signed_decimal area
asked (Check start end) = codes "check " ++ (point_text start ++ (codes " to " ++ point_text end))

-- ---- what was answered

-- what the number of a call that is taken stands for; a check answers none
abbrev pub thing_of : Call → List ℕ
thing_of (Add node) = codes "node"
thing_of TakeBack = codes "node"
thing_of (Publish area node on) = codes "area"
thing_of (Switch area on) = codes "area"
thing_of (Strike area) = codes "area"
thing_of (Check start end) = codes "leg"

-- what a check found: clear 0, inside 1, entered 2, near 3
abbrev pub finding : Row → List ℕ
finding row =
    cond (row.answer == 0) (codes "clear, bounds " ++ decimal row.bounds)
    (cond (row.answer == 1) (codes "starts inside")
    (cond (row.answer == 2)
    (codes "entered in piece " ++ (signed_decimal row.piece ++ (codes ", bounds " ++ decimal row.bounds)))
    (codes "near in piece " ++ (signed_decimal row.piece ++ (codes ", bounds " ++ (decimal row.bounds ++ codes ", not shown clear"))))))

abbrev pub answered : Call → Answer → List ℕ
answered call (taken number) = thing_of call ++ (codes " " ++ decimal number)
answered call (refused number) = codes "refused with " ++ decimal number
answered call (checked row) = finding row

-- ---- what comes of it

-- a leg may be filed if its check is answered clear, and in no other case
abbrev pub may_be_filed : Answer → Bool
may_be_filed (taken number) = false
may_be_filed (refused number) = false
may_be_filed (checked row) = row.answer == 0

abbrev pub is_taken : Answer → Bool
is_taken (taken number) = true
is_taken (refused number) = false
is_taken (checked row) = false

abbrev pub change_of : Answer → Ending
change_of answer = cond (is_taken answer) Done Unchanged

abbrev pub ending_of : Call → Answer → Ending
ending_of (Add node) answer = change_of answer
ending_of TakeBack answer = change_of answer
ending_of (Publish area node on) answer = change_of answer
ending_of (Switch area on) answer = change_of answer
ending_of (Strike area) answer = change_of answer
ending_of (Check start end) answer = cond (may_be_filed answer) MayBeFiled NotToBeFiled

abbrev pub words_of : Ending → List ℕ
words_of Done = codes ", done"
words_of Unchanged = codes ", nothing changed"
words_of MayBeFiled = codes ": may be filed"
words_of NotToBeFiled = codes ": not to be filed"

-- ---- the report

abbrev pub line_of : Call → Answer → List ℕ
line_of call answer = asked call ++ (codes ": " ++ (answered call answer ++ (words_of (ending_of call answer) ++ codes "\n")))

-- a line for each call with its answer
abbrev pub text_of : List Call → List Answer → List ℕ
text_of calls answers = flat_map (λ p. line_of p.0 p.1) (zip calls answers)

-- the report on a list of calls that is sent to an empty sheet
abbrev pub report_of : List Call → List ℕ
report_of calls = text_of calls (answers_to empty_sheet calls)
