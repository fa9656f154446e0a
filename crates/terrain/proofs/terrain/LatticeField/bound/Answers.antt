use Rattle.std.proofs.Common.{pos, vec_items, sym, ◌∙◌}
use Rattle.std.proofs.lemmas.Bool.{cond-true, cond-false}
use Rattle.integer.proofs.Machine.{fits, kept, is, is_by, is_stored, is_product}
use Rattle.lattice.specs.Terrain.{bound, lies_in_one_cell, value}
use Rattle.terrain.specs.Rows.{heights_of}
use Rattle.terrain.proofs.Coordinates.{half_small}
use Rattle.terrain.proofs.Lattices.{steepness_is}
use Rattle.terrain.proofs.terrain.LatticeField.bound.Goals as goal

pub overflow_mul-result : goal.overflow_mul-result
overflow_mul-result c =
    fits (is_product (is_stored (steepness_is c.args.self.now c.args.leg.now c.steepness.ensures) tt) (is_stored (is_by c.from.ensures (is (half_small c.args.piece))) tt)) tt

pub returns-then-stays_in_cell : goal.returns-then-stays_in_cell
unfolding bound
returns-then-stays_in_cell c =
    c.bound_in_cell.ensures ∙ sym (cond-true (lies_in_one_cell c.args.leg.now (pos c.args.piece.middle) (pos c.args.piece.half)) _ _ (sym c.stays_in_cell.ensures ∙ c.if-stays_in_cell.true))

pub returns-else-stays_in_cell : goal.returns-else-stays_in_cell
unfolding bound
returns-else-stays_in_cell c =
    let base = kept c.value.type_inv ∙ c.value.ensures ∙ (λ t. value (heights_of (vec_items c.args.self.now.heights.row)) c.args.leg.now (pos (c.middle_step.ensures t)) (pos 1)) in
    let slack = (is_stored (is_product (is_stored (steepness_is c.args.self.now c.args.leg.now c.steepness.ensures) tt) (is_stored (is_by c.from.ensures (is (half_small c.args.piece))) tt)) tt).same in
    (λ t. record { u0 = base t; u1 = pos 0; u2 = slack t })
    ∙ sym (cond-false (lies_in_one_cell c.args.leg.now (pos c.args.piece.middle) (pos c.args.piece.half)) _ _ (sym c.stays_in_cell.ensures ∙ c.if-stays_in_cell.false))
