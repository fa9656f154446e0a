-- Which legs the report says may be filed, and what is known of them.
use Rattle.std.specs.Prelude.{◌≡◌, ℕ, true, List, ◌∷◌, ◌++◌, Some, None, codes, slice_index_or}
use Rattle.leg.specs.declared.shapes.Point.{Point}
use Rattle.leg.specs.declared.shapes.Leg.{Leg}
use Rattle.leg.specs.Making.{Joins}
use Rattle.leg_check.specs.Promise.{Row, Free}
use Rattle.nodes.specs.Meanings.{value_of}
use Rattle.areas.specs.declared.area.Area.{Area}
use Rattle.sheet.specs.declared.call.Call.{Call}
use Rattle.sheet.specs.declared.call.Call.TheVariants.{Check}
use Rattle.sheet.specs.Calls.{SheetData, built}
use Rattle.sheet.specs.Answers.{checked, field_of, answer_of}
use Rattle.dispatching.specs.Lines.{line_of, report_of}

-- the line ends with these words
abbrev pub SaysFiled : List ℕ → Type 0
SaysFiled line = (front : List ℕ) × (line ≡ front ++ codes "may be filed\n")

-- the line of a call that is sent after others
abbrev pub line_after : List Call → Call → List ℕ
line_after before call = line_of call (answer_of (built before) call)

-- the call is a check that is answered clear, and its leg has no point inside
pub record ClearLeg (sheet : SheetData) (call : Call) : Type 0 where
  pub start : Point
  pub end : Point
  pub is_check : call ≡ Check start end
  pub row : Row
  pub answer : answer_of sheet call ≡ checked row
  pub clear : row.answer ≡ 0
  pub leg : Leg
  pub joins : Joins leg start end
  -- the value of the sheet's field is above 0 at every place of the leg
  pub free : Free ((field_of sheet).value leg) 4096
  -- and so is that of each area that is on
  pub outside : (number : ℕ) (area : Area) → slice_index_or sheet.slots number None ≡ Some area → area.on ≡ true → Free (value_of leg sheet.nodes area.node) 4096

-- Of the report on a list of calls, for each call of the list, with those before and after it.
pub record OnlyClear (calls : List Call) (text : List ℕ) : Type 0 where
  -- after the report on the calls before it stands its line
  pub stands : (before rest : List Call) (call : Call) → calls ≡ before ++ (call ∷ rest) → (more : List ℕ) × (text ≡ report_of before ++ (line_after before call ++ more))
  -- its line says "may be filed" only if it is a check that is answered clear, and then the leg has no point inside, with the areas as those calls left them
  pub filed : (before rest : List Call) (call : Call) → calls ≡ before ++ (call ∷ rest) → SaysFiled (line_after before call) → ClearLeg (built before) call
  -- and it says so of each such check
  pub each : (before rest : List Call) (start end : Point) (row : Row) → calls ≡ before ++ (Check start end ∷ rest) →
      answer_of (built before) (Check start end) ≡ checked row → row.answer ≡ 0 → SaysFiled (line_after before (Check start end))
