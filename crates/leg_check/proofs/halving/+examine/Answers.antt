use Rattle.std.proofs.Common.{sym, ◌∙◌}
use Rattle.leg_check.specs.declared.verdict.Walk.TheVariants.{Cleared}
use Rattle.leg_check.proofs.Walks.{cleared_step, finest_step, both_step, first_step, walked}
use Rattle.leg_check.proofs.halving.+examine.Goals as goal

pub returns-then-cleared : goal.returns-then-cleared
returns-then-cleared g t c =
    walked (g.F.Field.meaning c.args.field.now) c.args.leg.now c.args.piece.middle c.args.piece.half c.args.piece.made
    (λ n e. cleared_step (g.F.Field.meaning c.args.field.now) c.args.leg.now n c.args.piece.middle c.args.piece.half e (sym c.cleared.ensures ∙ c.if-cleared.true))

pub returns-in_default : goal.returns-in_default
returns-in_default g t c =
    walked (g.F.Field.meaning c.args.field.now) c.args.leg.now c.args.piece.middle c.args.piece.half c.args.piece.made
    (λ n e. finest_step (g.F.Field.meaning c.args.field.now) c.args.leg.now n c.args.piece.middle c.args.piece.half e c.in_default.ensures (sym c.cleared.ensures ∙ c.if-cleared.false))

pub returns-in-Stopped : goal.returns-in-Stopped
returns-in-Stopped g t c =
    let halved = c.in-Some.ensures in
    walked (g.F.Field.meaning c.args.field.now) c.args.leg.now c.args.piece.middle c.args.piece.half c.args.piece.made
    (λ n e. first_step (g.F.Field.meaning c.args.field.now) c.args.leg.now c.args.piece.middle c.args.piece.half halved.wide (sym c.cleared.ensures ∙ c.if-cleared.false) n
    c.in-Some.halves.first.middle c.in-Some.halves.first.half c.in-Stopped.middle c.in-Stopped.bounds e halved.first_middle halved.first_half c.in-Stopped.ensures.exact)

pub returns-in-Cleared : goal.returns-in-Cleared
returns-in-Cleared g t c =
    let halved = c.in-Some.ensures in
    walked (g.F.Field.meaning c.args.field.now) c.args.leg.now c.args.piece.middle c.args.piece.half c.args.piece.made
    (λ n e.
    c.after.ensures
    ∙ both_step (g.F.Field.meaning c.args.field.now) c.args.leg.now c.args.piece.middle c.args.piece.half halved.wide (sym c.cleared.ensures ∙ c.if-cleared.false) n
    c.in-Some.halves.first.middle c.in-Some.halves.first.half c.in-Some.halves.second.middle c.in-Some.halves.second.half
    (Cleared c.in-Cleared.bounds) c.examine-in-Cleared.result e halved.first_middle halved.first_half halved.second_middle halved.second_half c.in-Cleared.ensures.exact c.examine-in-Cleared.ensures.exact)
