use Rattle.std.proofs.Common.{◌≡◌, pos, vec_items, ap, ◌∙◌, ap₂}
use Rattle.integer.proofs.Machine.{within, is, is_numeral, is_stored}
use Rattle.affine.specs.declared.Form.{Form}
use Rattle.affine.specs.Forms.{sum_of, scaled_by, opposite_of}
use Rattle.affine.proofs.Fitting.{sum_fits, scaled_fits, opposite_fits}
use Rattle.leg.specs.Places.{coordinate}
use Rattle.lattice.specs.Terrain.{even, cell_x, cell_y, into_x, into_y, surface_form}
use Rattle.terrain.specs.Rows.{heights_of}
use Rattle.terrain.proofs.Coordinates.{scaled_is, index_is, depth_by, change_by}
use Rattle.terrain.proofs.Grounds.{ground_form_is}
use Rattle.terrain.proofs.Sizes.{bounded_by, bounded_scaled, bounded_opposite}
use Rattle.terrain.proofs.grid.Heights.bound_in_cell.Goals as goal

pub even-f-requires : goal.even-f-requires
even-f-requires c = within (is_stored (is c.of-x.result.inside) tt) tt

pub even-g-requires : goal.even-g-requires
even-g-requires c = within (is_stored (is c.of-y.result.inside) tt) tt

pub even-climb-requires : goal.even-climb-requires
even-climb-requires c = within (scaled_is c.z-up.result c.z-up.ensures.from c.z-up.ensures.to c.middle_step-middle.result c.at.ensures.value) tt

pub ground_form-ground-requires : goal.ground_form-ground-requires
ground_form-ground-requires c = (c.even-f.ensures.small, c.even-g.ensures.small)

pub scaled-requires : goal.scaled-requires
scaled-requires c = scaled_fits (is_numeral 16777216).small c.even-climb.ensures.small tt tt

pub opposite-requires : goal.opposite-requires
opposite-requires c = opposite_fits c.ground_form-ground.ensures.small tt

pub sum-requires : goal.sum-requires
sum-requires c =
    sum_fits (bounded_by c.scaled.ensures.value (bounded_scaled (is_numeral 16777216).small c.even-climb.ensures.small))
    (bounded_by c.opposite.ensures.value (bounded_opposite c.ground_form-ground.ensures.small)) tt

pub returns : goal.returns
returns c =
    let h = heights_of (vec_items c.args.self.now.row) in let leg = c.args.leg.now in
    let s = pos c.middle_step-middle.result.at in let r = pos c.args.piece.half in
    let x = c.x-east in let y = c.y-north in let z = c.z-up in
    let m : s ≡ pos c.args.piece.middle = ap pos c.middle_step-middle.ensures in
    let i = index_is x.result x.ensures.from x.ensures.to s c.of-x.ensures.index ∙ (λ t. cell_x leg (m t) (pos 1)) in
    let j = index_is y.result y.ensures.from y.ensures.to s c.of-y.ensures.index ∙ (λ t. cell_y leg (m t) (pos 1)) in
    let along_x = (is_stored (is c.of-x.result.inside) tt).same ∙ depth_by x.result x.ensures.from x.ensures.to s c.of-x.ensures.depth ∙ (λ t. into_x leg (cell_x leg (m t) (pos 1)) (m t) (pos 1)) in
    let along_y = (is_stored (is c.of-y.result.inside) tt).same ∙ depth_by y.result y.ensures.from y.ensures.to s c.of-y.ensures.depth ∙ (λ t. into_y leg (cell_y leg (m t) (pos 1)) (m t) (pos 1)) in
    let along_z = (scaled_is z.result z.ensures.from z.ensures.to c.middle_step-middle.result c.at.ensures.value).same ∙ (λ t. coordinate leg.start.z leg.end.z (m t) (pos 1)) in
    let f = c.even-f.ensures.value ∙ ap₂ even along_x (change_by x.result x.ensures.from x.ensures.to r) in
    let g = c.even-g.ensures.value ∙ ap₂ even along_y (change_by y.result y.ensures.from y.ensures.to r) in
    let climb = c.even-climb.ensures.value ∙ ap₂ even along_z (change_by z.result z.ensures.from z.ensures.to r) in
    let ground = c.ground_form-ground.ensures.value ∙ ground_form_is (vec_items c.args.self.now.row) _ _ c.cell.result c.cell.ensures _ _ ∙ (λ t. surface_form h (i t) (j t) (f t) (g t)) in
    c.sum.ensures.value
    ∙ ap₂ sum_of (c.scaled.ensures.value ∙ ap (λ (u : Form). scaled_by (pos 16777216) u) climb) (c.opposite.ensures.value ∙ ap opposite_of ground)
