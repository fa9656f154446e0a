use Rattle.field.proofs.Fitting.{bound_opposite_fits}
use Rattle.field.proofs.outsides.OutsideField.bound.Goals as goal

pub opposite-requires : goal.opposite-requires
opposite-requires g c =
    bound_opposite_fits (g.F.Field.meaning c.args.self.now.part) (g.F.Field.laws c.args.self.now.part c.requires)
    c.args.leg.now c.args.piece.middle c.args.piece.half c.args.piece.made c.bound.ensures
