use Rattle.std.proofs.Common.{rules}
use Rattle.affine.proofs.Results.{high_above}
use Rattle.affine.proofs.Form.high.Goals as goal

pub returns-clause-above : goal.returns-clause-above
returns-clause-above c = high_above c.args.self (search rules)
