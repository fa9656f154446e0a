-- What is promised of a list of calls that is run on a sheet from its opening on.
use Rattle.std.specs.Prelude.{◌≡◌, List, ◌∷◌, ◌++◌, length, slice_index_or}
use Rattle.leg.specs.declared.shapes.Point.{Point}
use Rattle.sheet.specs.declared.call.Call.{Call}
use Rattle.sheet.specs.declared.call.Call.TheVariants.{Check}
use Rattle.sheet.specs.Calls.{SheetData, empty_sheet, built}
use Rattle.sheet.specs.Answers.{Answer, taken, answers_to}
use Rattle.sheet.specs.Kept.{alone, Kept}

pub record Ran (calls : List Call) (answers : List Answer) (sheet : SheetData) : Type 0 where
  -- the sheet left is the one that the list builds
  pub left : sheet ≡ built calls
  -- each call is answered as the rules say, on the sheet that those before it left
  pub answered : answers ≡ answers_to empty_sheet calls
  -- each check keeps the promise for the sheet that the calls before it built
  pub kept : (before rest : List Call) (start end : Point) → calls ≡ before ++ (Check start end ∷ rest) →
      Kept alone (built before) start end (slice_index_or answers (length before) (taken 0))
