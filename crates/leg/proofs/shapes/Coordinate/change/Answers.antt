use Rattle.std.proofs.Common.{pos, arith}
use borrow.Author.Differences.{ints}
use Rattle.integer.specs.Numbers.{Within}
use Rattle.integer.proofs.Machine.{within, is, is_by, is_stored, is_difference, is_product}
use Rattle.leg.proofs.Halving.{width_limit}
use Rattle.leg.proofs.shapes.Coordinate.change.Goals as goal

pub returns : goal.returns
returns c =
    let h = width_limit c.args.piece.half c.args.piece.made.1 in
    let few : Within (pos c.args.piece.half) (pos 2048) = record { above = omega (arith, ints); below = omega (arith, ints) } in
    let r = is_stored (is_product (is_stored (is_difference (is_stored (is c.args.self.to_small) tt) (is_stored (is c.args.self.from_small) tt)) tt) (is_stored (is_by c.from.ensures (is few)) tt)) tt in
    record { value = r.same; small = within r tt }
