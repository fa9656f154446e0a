use Rattle.std.proofs.Common.{◌≡◌, List, ℤ, sym, subst}
use Rattle.terrain.specs.Rows.{row_refusal}
use Rattle.terrain.proofs.Files.{file_row_fits}
use Rattle.terrain.proofs.grid.Lattice.from_file.Goals as goal

pub new-requires : goal.new-requires
new-requires c = subst (λ (hs : List ℤ). ◌≡◌ (row_refusal hs) 0) (sym c.in_ok-file_row.ensures) (file_row_fits c.args.bytes.now c.requires)
