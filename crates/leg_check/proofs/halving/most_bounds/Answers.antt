use Rattle.std.proofs.Common.{refl}
use Rattle.leg_check.proofs.Counting.{counted_once}
use Rattle.leg_check.proofs.halving.most_bounds.Goals as goal

pub returns : goal.returns
returns c = record { all = refl; once = counted_once }
