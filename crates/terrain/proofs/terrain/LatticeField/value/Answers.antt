use Rattle.std.proofs.Common.{pos, ◌-ℤ◌, vec_items, refl, ap, ◌∙◌}
use Rattle.integer.proofs.Ring.{ring, ◌:*◌, con, ◌:=◌}
use Rattle.integer.proofs.Machine.{fits, is_of, is_numeral, is_stored, is_difference, is_product}
use Rattle.leg.specs.Places.{coordinate}
use Rattle.lattice.specs.Terrain.{cell_x, cell_y, into_x, into_y, surface, value}
use Rattle.terrain.specs.Rows.{heights_of}
use Rattle.terrain.proofs.Coordinates.{scaled_is, index_is, depth_by}
use Rattle.terrain.proofs.Grounds.{ground_is_surface}
use Rattle.terrain.proofs.terrain.LatticeField.value.Goals as goal

pub overflow_mul-result : goal.overflow_mul-result
overflow_mul-result c = fits (is_product (is_numeral 16777216) (scaled_is c.z.result c.z.ensures.from c.z.ensures.to c.args.step c.at.ensures.value)) tt

pub overflow_sub-result : goal.overflow_sub-result
overflow_sub-result c =
    fits (is_difference (is_stored (is_product (is_numeral 16777216) (scaled_is c.z.result c.z.ensures.from c.z.ensures.to c.args.step c.at.ensures.value)) tt)
    (is_stored (is_of c.ground.ensures.value c.ground.ensures.small) tt)) tt

pub returns : goal.returns
unfolding value
returns c =
    let h = heights_of (vec_items c.args.self.now.heights.row) in let leg = c.args.leg.now in let s = pos c.args.step.at in
    let i = index_is c.x.result c.x.ensures.from c.x.ensures.to s c.of-x.ensures.index in
    let j = index_is c.y.result c.y.ensures.from c.y.ensures.to s c.of-y.ensures.index in
    let f = depth_by c.x.result c.x.ensures.from c.x.ensures.to s c.of-x.ensures.depth in
    let g = depth_by c.y.result c.y.ensures.from c.y.ensures.to s c.of-y.ensures.depth in
    let ground = c.ground.ensures.value
    ∙ ground_is_surface (vec_items c.args.self.now.heights.row) _ _ c.cell.result c.cell.ensures _ _
    ∙ (λ t. surface h (i t) (j t) (f t) (g t) (pos 1)) in
    (is_stored (is_difference (is_stored (is_product (is_numeral 16777216) (scaled_is c.z.result c.z.ensures.from c.z.ensures.to c.args.step c.at.ensures.value)) tt)
    (is_stored (is_of ground c.ground.ensures.small) tt)) tt).same
    ∙ ap (λ (x : _). x -ℤ surface h (cell_x leg s (pos 1)) (cell_y leg s (pos 1)) (into_x leg (cell_x leg s (pos 1)) s (pos 1)) (into_y leg (cell_y leg s (pos 1)) s (pos 1)) (pos 1))
    (ring 1 (λ z. con (pos 16777216) :* z := con (pos 16777216) :* z :* con (pos 1)) refl (coordinate leg.start.z leg.end.z s (pos 1)))
