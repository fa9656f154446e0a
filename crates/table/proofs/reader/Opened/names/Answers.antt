use Rattle.std.proofs.Common.{◌<◌, All, sym, subst, arith}
use Rattle.table.specs.Text.{fields, lines}
use Rattle.table.specs.Names.{held}
use Rattle.table.proofs.NextRows.{taken}
use Rattle.table.proofs.Runs.{few}
use Rattle.table.proofs.Packing.{small_places}
use Rattle.table.proofs.reader.Opened.names.Goals as goal

pub pack-requires : goal.pack-requires
pack-requires c =
    let self = c.args.self.now in
    let line = c.in_ok-line.line.now in
    let t = taken _ 1 (lines self.text.now) line c.in_ok-line.ensures.0 in
    let f = few self.table in
    subst (All (λ p. p < 16)) (sym c.places_of.ensures) (small_places (held c.names-names.result.now) (fields line) (omega (arith, t.fits)))
