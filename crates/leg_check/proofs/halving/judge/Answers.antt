use Rattle.std.proofs.Common.{◌∙◌, arith}
use Rattle.leg_check.proofs.Walks.{stopped_on_leg, whole_walk}
use Rattle.leg_check.proofs.Judging.{tested, shown, inside_exact, clear_exact, near_exact, entered_exact}
use Rattle.leg_check.proofs.halving.judge.Goals as goal

pub returns-then-not-above_zero : goal.returns-then-not-above_zero
returns-then-not-above_zero g c =
    shown (g.F.Field.meaning c.args.field.now) c.args.leg.now (g.F.Field.laws c.args.field.now c.requires)
    (inside_exact (g.F.Field.meaning c.args.field.now) c.args.leg.now
    (tested c.value.type_inv c.value.ensures c.above_zero.ensures ∙ c.if-not-above_zero.true))

pub overflow_sub-piece : goal.overflow_sub-piece
overflow_sub-piece g c =
    (stopped_on_leg (g.F.Field.meaning c.args.field.now) c.args.leg.now c.in-Stopped.middle c.in-Stopped.bounds
    (whole_walk (g.F.Field.meaning c.args.field.now) c.args.leg.now c.whole.ensures.value c.in-Stopped.ensures.exact)).0

pub overflow_add-middle : goal.overflow_add-middle
overflow_add-middle g c =
    let on-leg = stopped_on_leg (g.F.Field.meaning c.args.field.now) c.args.leg.now c.in-Stopped.middle c.in-Stopped.bounds
    (whole_walk (g.F.Field.meaning c.args.field.now) c.args.leg.now c.whole.ensures.value c.in-Stopped.ensures.exact) in
    omega (arith, on-leg)

pub invariant_of-value-in-Stopped : goal.invariant_of-value-in-Stopped
invariant_of-value-in-Stopped g c =
    let on-leg = stopped_on_leg (g.F.Field.meaning c.args.field.now) c.args.leg.now c.in-Stopped.middle c.in-Stopped.bounds
    (whole_walk (g.F.Field.meaning c.args.field.now) c.args.leg.now c.whole.ensures.value c.in-Stopped.ensures.exact) in
    omega (arith, on-leg)

pub returns-in-Cleared : goal.returns-in-Cleared
returns-in-Cleared g c =
    shown (g.F.Field.meaning c.args.field.now) c.args.leg.now (g.F.Field.laws c.args.field.now c.requires)
    (clear_exact (g.F.Field.meaning c.args.field.now) c.args.leg.now
    (tested c.value.type_inv c.value.ensures c.above_zero.ensures ∙ c.if-not-above_zero.false)
    c.in-Cleared.bounds (whole_walk (g.F.Field.meaning c.args.field.now) c.args.leg.now c.whole.ensures.value c.in-Cleared.ensures.exact))

pub returns-then-above_zero : goal.returns-then-above_zero
returns-then-above_zero g c =
    shown (g.F.Field.meaning c.args.field.now) c.args.leg.now (g.F.Field.laws c.args.field.now c.requires)
    (near_exact (g.F.Field.meaning c.args.field.now) c.args.leg.now
    (tested c.value.type_inv c.value.ensures c.above_zero.ensures ∙ c.if-not-above_zero.false)
    c.in-Stopped.middle c.in-Stopped.bounds (whole_walk (g.F.Field.meaning c.args.field.now) c.args.leg.now c.whole.ensures.value c.in-Stopped.ensures.exact)
    (tested c.value-in-Stopped.type_inv c.value-in-Stopped.ensures c.above_zero-in-Stopped.ensures ∙ c.if-above_zero.true))

pub returns-else-above_zero : goal.returns-else-above_zero
returns-else-above_zero g c =
    shown (g.F.Field.meaning c.args.field.now) c.args.leg.now (g.F.Field.laws c.args.field.now c.requires)
    (entered_exact (g.F.Field.meaning c.args.field.now) c.args.leg.now
    (tested c.value.type_inv c.value.ensures c.above_zero.ensures ∙ c.if-not-above_zero.false)
    c.in-Stopped.middle c.in-Stopped.bounds (whole_walk (g.F.Field.meaning c.args.field.now) c.args.leg.now c.whole.ensures.value c.in-Stopped.ensures.exact)
    (tested c.value-in-Stopped.type_inv c.value-in-Stopped.ensures c.above_zero-in-Stopped.ensures ∙ c.if-above_zero.false))
