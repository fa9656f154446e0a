use Rattle.field.proofs.Fitting.{answer_within}
use Rattle.field.proofs.joined.JoinedField.bound.Goals as goal

pub form-requires : goal.form-requires
form-requires g c = (
  answer_within (g.A.Field.meaning c.args.self.now.first) (g.A.Field.laws c.args.self.now.first c.requires.0) c.args.leg.now c.args.piece.middle c.args.piece.half c.args.piece.made c.bound.ensures,
  answer_within (g.B.Field.meaning c.args.self.now.second) (g.B.Field.laws c.args.self.now.second c.requires.1) c.args.leg.now c.args.piece.middle c.args.piece.half c.args.piece.made c.bound-2.ensures,
)
