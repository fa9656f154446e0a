use Rattle.std.proofs.Common.{arith}
use Rattle.std.proofs.lemmas.Grind.{common_steps}
use Rattle.leg.proofs.shapes.Point.is_on_map.Goals.{then-contains, else-contains}
use Rattle.leg.proofs.shapes.Point.is_on_map.Goals as goal

pub returns-then-contains-2 : goal.returns-then-contains-2
returns-then-contains-2 c = elim c.if-contains.branch [ then-contains w ↦ grind (arith, common_steps) | else-contains w ↦ grind (arith, common_steps) ]
