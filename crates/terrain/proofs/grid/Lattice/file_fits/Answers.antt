use Rattle.std.proofs.Common.{◌/◌, length, rules}
use Rattle.std.specs.Simd.{first_chunks}
use Rattle.std.proofs.lemmas.Iterator.{YieldsList-from_slice, YieldsList-from_map}
use Rattle.terrain.specs.Rows.{height_of, file_heights}
use Rattle.terrain.proofs.grid.Lattice.file_fits.Goals as goal

pub returns : goal.returns
returns c =
    c.check.ensures (file_heights c.args.bytes.now)
    (YieldsList-from_map _ height_of (YieldsList-from_slice (first_chunks 2 (length c.args.bytes.now / 2) c.args.bytes.now) cc) (cc) (λ x r q k. search rules)).runs
