use Rattle.std.proofs.Common.{◌&&◌, ℤ, pos, ap, ◌∙◌}
use lib.Signed.{le_z}
use Rattle.lattice.specs.Terrain.{in_cell}
use Rattle.terrain.proofs.Coordinates.{depth_is}
use Rattle.terrain.proofs.cell.Spot.shares_cell.Goals as goal

pub returns : goal.returns
returns c =
    let u = c.from_edge in
    c.inside.ensures
    ∙ ap (λ (x : ℤ). le_z (pos 0) x && le_z x (pos 262144)) (depth_is u.result u.ensures.low u.ensures.high c.args.self.index c.args.self.on_lattice)
    ∙ ap (λ (x : ℤ). in_cell (pos 262144) c.args.self.index x) u.ensures.value
