use Rattle.std.proofs.Common.{ℤ, pos, ◌∙◌, ap₂}
use Rattle.leg.specs.Places.{coordinate}
use Rattle.field_tests.proofs.Sides.{ahead_is}
use Rattle.field_tests.proofs.side.Side.ahead.Goals as goal

pub returns : goal.returns
returns c =
    let same = ap₂ (λ (a b : ℤ). coordinate a b (pos c.args.step.at) (pos 1)) c.x.ensures.from c.x.ensures.to in
    ahead_is c.args.leg.now.start.x c.args.leg.now.end.x c.args.self.now.x (pos c.args.step.at) c.requires (c.at.ensures.value ∙ same) c.at.ensures.small
