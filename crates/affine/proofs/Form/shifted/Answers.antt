use Rattle.std.proofs.Common.{rules}
use Rattle.affine.proofs.Holding.{shifted_holds}
use Rattle.affine.proofs.Results.{held}
use Rattle.affine.proofs.Form.shifted.Goals as goal

pub returns-clause-holds : goal.returns-clause-holds
returns-clause-holds c m r p q n d h = held (search rules) (shifted_holds m r p q c.args.k c.args.self n d h)
