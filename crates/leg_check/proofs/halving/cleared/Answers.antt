use Rattle.field.proofs.Fitting.{bound_low_fits}
use Rattle.leg_check.proofs.halving.cleared.Goals as goal

pub low-requires : goal.low-requires
low-requires g c =
    bound_low_fits (g.F.Field.meaning c.args.field.now) (g.F.Field.laws c.args.field.now c.requires)
    c.args.leg.now c.args.piece.middle c.args.piece.half c.args.piece.made c.bound-bound.ensures
