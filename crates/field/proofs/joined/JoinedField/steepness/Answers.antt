use Rattle.std.proofs.Common.{arith, rules}
use borrow.Author.Differences.{ints}
use Rattle.std.proofs.lemmas.Int.{clamps}
use Rattle.field.proofs.Fitting.{steepness_in_limit}
use Rattle.field.proofs.joined.JoinedField.steepness.Goals as goal

pub overflow_add-result : goal.overflow_add-result
overflow_add-result g c =
    let first = steepness_in_limit (g.A.Field.meaning c.args.self.now.first) (g.A.Field.laws c.args.self.now.first c.requires.0) c.args.leg.now in
    let second = steepness_in_limit (g.B.Field.meaning c.args.self.now.second) (g.B.Field.laws c.args.self.now.second c.requires.1) c.args.leg.now in
    omega (arith, ints, clamps)

pub returns : goal.returns
returns g c =
    let first = steepness_in_limit (g.A.Field.meaning c.args.self.now.first) (g.A.Field.laws c.args.self.now.first c.requires.0) c.args.leg.now in
    let second = steepness_in_limit (g.B.Field.meaning c.args.self.now.second) (g.B.Field.laws c.args.self.now.second c.requires.1) c.args.leg.now in
    search rules
