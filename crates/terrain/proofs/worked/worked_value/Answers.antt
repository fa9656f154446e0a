use Rattle.std.proofs.Common.{refl}
use Rattle.lattice.proofs.Worked.{worked_terrain}
use Rattle.terrain.proofs.worked.worked_value.Goals as goal

pub returns : goal.returns
returns c = record { value = refl; worked = worked_terrain }
