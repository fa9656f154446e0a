use Rattle.std.proofs.Common.{rules}
use Rattle.affine.proofs.Results.{opposite_held}
use Rattle.affine.proofs.Form.opposite.Goals as goal

pub returns-clause-holds : goal.returns-clause-holds
returns-clause-holds c = opposite_held c.args.self (search rules)
