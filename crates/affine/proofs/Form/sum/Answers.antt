use Rattle.std.proofs.Common.{rules}
use Rattle.affine.proofs.Holding.{holds_sum}
use Rattle.affine.proofs.Results.{held}
use Rattle.affine.proofs.Form.sum.Goals as goal

pub returns-clause-holds : goal.returns-clause-holds
returns-clause-holds c m r p q n k d h g = held (search rules) (holds_sum m r p q c.args.self c.args.v n k d h g)
