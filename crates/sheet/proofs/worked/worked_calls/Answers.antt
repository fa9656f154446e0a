use Rattle.std.proofs.Common.{[], ◌∷◌, pos}
use Rattle.sheet.specs.declared.call.Call.TheVariants.{Add, TakeBack, Publish, Strike}
use Rattle.sheet.proofs.WorkedCalls.{worked_sheet}
use Rattle.sheet.proofs.worked.worked_calls.Goals as goal

pub returns : goal.returns
returns c = record {
  value = λ i.
      c.along.ensures i
      ∷ Add (c.cylinder.ensures i)
      ∷ Publish (pos 0) (pos 0) (pos 1)
      ∷ c.along-2.ensures i
      ∷ c.along-3.ensures i
      ∷ Strike (pos 0)
      ∷ TakeBack
      ∷ Add (c.cylinder-2.ensures i)
      ∷ Publish (pos 0) (pos 0) (pos 1)
      ∷ c.along-4.ensures i
      ∷ [];
  worked = worked_sheet;
}
