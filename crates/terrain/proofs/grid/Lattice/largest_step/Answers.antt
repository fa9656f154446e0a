use Rattle.std.proofs.Common.{vec_items}
use Rattle.lattice.proofs.Lawful.{steep_between}
use Rattle.terrain.specs.Rows.{heights_of}
use Rattle.terrain.proofs.Lattices.{largest_is}
use Rattle.terrain.proofs.grid.Lattice.largest_step.Goals as goal

pub returns : goal.returns
returns c = let lattice = c.args.self.now in record { value = (largest_is lattice).same; between = steep_between (heights_of (vec_items lattice.heights.row)) }
