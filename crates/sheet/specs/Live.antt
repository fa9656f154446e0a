-- What is promised of a check of a live sheet, whatever calls it was sent.
use Rattle.std.specs.Prelude.{◌≡◌, List}
use Rattle.leg.specs.declared.shapes.Point.{Point}
use Rattle.sheet.specs.declared.call.Call.{Call}
use Rattle.sheet.specs.Calls.{SheetData, built}
use Rattle.sheet.specs.Answers.{Answer}
use Rattle.sheet.specs.Kept.{Joint, Kept}

pub record Live (joint : Joint) (sheet : SheetData) (start end : Point) (answer : Answer) : Type 0 where
  -- the promise, for what the sheet holds now
  pub kept : Kept joint sheet start end answer
  -- some list of calls builds it
  pub reached : (calls : List Call) × (sheet ≡ built calls)
  -- and whichever list built it, the promise holds for that list
  pub always : (calls : List Call) → sheet ≡ built calls → Kept joint (built calls) start end answer
