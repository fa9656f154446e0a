use Rattle.std.proofs.Common.{nat_abs, sym, refl, ◌∙◌}
use Rattle.std.proofs.lemmas.Int.{to_z-of_z}
use Rattle.std.proofs.lemmas.Bool.{both_ways}
use Rattle.integer.proofs.Machine.{stored}
use Rattle.leg.specs.Making.{lies_in_bounds, makes_piece}
use Rattle.leg.proofs.Shaping.{passed, passed_shaped, shaped_passes, piece_on_leg}
use Rattle.leg.proofs.shapes.Piece.new.Goals as goal

pub returns-then-not-in_bounds : goal.returns-then-not-in_bounds
returns-then-not-in_bounds c =
    let f = c.ranges.middle in let g = c.ranges.half in
    let failed = simp to_z-of_z at c.in_bounds.ensures in
    record {
      value = (refl, λ shape. both_ways (lies_in_bounds c.args.middle c.args.half) (sym failed ∙ c.if-not-in_bounds.true) (shaped_passes c.args.middle c.args.half shape).bounds);
      inside = tt;
    }

pub invariant_of-result : goal.invariant_of-result
invariant_of-result c =
    record { made = (passed (stored c.args.middle) (stored c.args.half) (sym c.in_bounds.ensures ∙ c.if-not-in_bounds.false) (sym c.is_piece.ensures ∙ c.if-is_piece.true)).piece }

pub returns-then-is_piece : goal.returns-then-is_piece
returns-then-is_piece c =
    let f = c.ranges.middle in let g = c.ranges.half in
    let bounds = simp to_z-of_z at c.in_bounds.ensures in
    let test = simp to_z-of_z at c.is_piece.ensures in
    let p = passed c.args.middle c.args.half (sym bounds ∙ c.if-not-in_bounds.false) (sym test ∙ c.if-is_piece.true) in
    record {
      value = (passed_shaped c.args.middle c.args.half p, simp to_z-of_z p.middle, simp to_z-of_z p.half);
      inside = simp to_z-of_z (piece_on_leg (nat_abs c.args.middle) (nat_abs c.args.half) p.piece);
    }

pub returns-else-is_piece : goal.returns-else-is_piece
returns-else-is_piece c =
    let f = c.ranges.middle in let g = c.ranges.half in
    let failed = simp to_z-of_z at c.is_piece.ensures in
    record {
      value = (refl, λ shape. both_ways (makes_piece (nat_abs c.args.middle) (nat_abs c.args.half)) (sym failed ∙ c.if-is_piece.false) (shaped_passes c.args.middle c.args.half shape).test);
      inside = tt;
    }
