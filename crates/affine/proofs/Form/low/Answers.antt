use Rattle.std.proofs.Common.{rules}
use Rattle.affine.proofs.Results.{low_below}
use Rattle.affine.proofs.Form.low.Goals as goal

pub returns-clause-below : goal.returns-clause-below
returns-clause-below c = low_below c.args.self (search rules)
