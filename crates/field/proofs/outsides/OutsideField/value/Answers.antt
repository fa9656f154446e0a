use Rattle.std.proofs.Common.{arith}
use borrow.Author.Differences.{ints}
use Rattle.std.proofs.lemmas.Int.{clamps}
use Rattle.integer.proofs.Absolute.{under, over}
use Rattle.field.proofs.Fitting.{value_within}
use Rattle.field.proofs.outsides.OutsideField.value.Goals as goal

pub overflow_sub-result : goal.overflow_sub-result
overflow_sub-result g c =
    let inside = value_within (g.F.Field.meaning c.args.self.now.part) (g.F.Field.laws c.args.self.now.part c.requires) c.args.leg.now c.args.step.at c.args.step.within c.value.type_inv c.value.ensures in
    let most = under inside in
    let least = over inside in
    omega (arith, ints, clamps)
