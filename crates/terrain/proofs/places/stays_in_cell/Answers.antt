use Rattle.std.proofs.Common.{◌∙◌}
use Rattle.lattice.specs.Terrain.{lies_in_one_cell}
use Rattle.terrain.specs.Moves.{stays_along}
use Rattle.terrain.proofs.Coordinates.{and_then, and_else}
use Rattle.terrain.proofs.places.stays_in_cell.Goals as goal

pub returns-then-stays : goal.returns-then-stays
unfolding lies_in_one_cell
returns-then-stays c =
    let x = c.x.ensures in let y = c.y.ensures in
    and_then c.if-stays.true (c.stays.ensures ∙ (λ t. stays_along (x.from t) (x.to t) c.args.piece)) (c.stays-then-stays.ensures ∙ (λ t. stays_along (y.from t) (y.to t) c.args.piece))

pub returns-else-stays : goal.returns-else-stays
unfolding lies_in_one_cell
returns-else-stays c =
    let leg = c.args.leg.now in let x = c.x.ensures in
    and_else (stays_along leg.start.y leg.end.y c.args.piece) c.if-stays.false (c.stays.ensures ∙ (λ t. stays_along (x.from t) (x.to t) c.args.piece))
