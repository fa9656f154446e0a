use Rattle.std.proofs.lemmas.Iterator.{YieldsList-from_slice}
use Rattle.std.proofs.lemmas.Iterator.Consumers.{YieldsList-from_copied}
use Rattle.terrain.proofs.grid.Lattice.fits.Goals as goal

pub returns : goal.returns
returns c = c.check.ensures c.args.heights.now (YieldsList-from_copied (YieldsList-from_slice c.args.heights.now cc)).runs
