use Rattle.std.proofs.Common.{◌<◌, ℤ, pos, sym, ap, ◌∙◌, subst, arith}
use Rattle.integer.specs.Numbers.{Within}
use Rattle.lattice.specs.Surface.{into}
use Rattle.lattice.specs.Terrain.{cell_of}
use Rattle.terrain.proofs.Coordinates.{cell_is, depth_small, depth_in}
use Rattle.terrain.proofs.cell.Spot.of.Goals as goal

pub invariant_of-result : goal.invariant_of-result
invariant_of-result c =
    let u = c.from_edge-u in
    let below : c.min-index.result < 128 = omega arith in
    record { on_lattice = below; inside = subst (λ (x : ℤ). Within x (pos 262144)) (sym (depth_in u.result u.ensures.low u.ensures.high below c.min-index.ensures)) (depth_small u.result u.ensures.low u.ensures.high) }

pub returns-clause-index : goal.returns-clause-index
returns-clause-index c = let u = c.from_edge-u in cell_is u.result u.ensures.low u.ensures.high c.min-index.ensures ∙ ap (λ (x : ℤ). cell_of (pos 262144) x) u.ensures.value

pub returns-clause-depth : goal.returns-clause-depth
returns-clause-depth c =
    let u = c.from_edge-u in
    let below : c.min-index.result < 128 = omega arith in
    depth_in u.result u.ensures.low u.ensures.high below c.min-index.ensures ∙ ap (λ (x : ℤ). into (pos 262144) (cell_of (pos 262144) x) x) u.ensures.value
