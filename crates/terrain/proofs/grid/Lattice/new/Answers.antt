use Rattle.std.proofs.Common.{pos, vec_items, ap}
use Rattle.terrain.proofs.Lattices.{largest_of, largest_fits}
use Rattle.terrain.proofs.grid.Lattice.new.Goals as goal

pub overflow_cast-largest : goal.overflow_cast-largest
overflow_cast-largest c = largest_fits (vec_items c.args.heights) c.requires (ap pos c.largest_step-largest.ensures)

pub invariant_of-result : goal.invariant_of-result
invariant_of-result c = record { steps = (largest_of (vec_items c.args.heights) c.requires (ap pos c.largest_step-largest.ensures)).same }
