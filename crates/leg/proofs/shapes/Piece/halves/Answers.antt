use Rattle.std.proofs.Common.{◌<◌, refl, arith}
use Rattle.leg.proofs.Halving.{first_half, second_half}
use Rattle.leg.proofs.Shaping.{covered, from_first, from_second}
use Rattle.leg.proofs.shapes.Piece.halves.Goals as goal

pub invariant_of-first : goal.invariant_of-first
invariant_of-first c =
    let some = c.args.self.made.0 in
    let wide : 1 < c.args.self.half = omega (arith, c.if-self-eq1.false) in
    record { made = first_half c.args.self.middle c.args.self.half c.args.self.made wide }

pub invariant_of-second : goal.invariant_of-second
invariant_of-second c =
    let some = c.args.self.made.0 in
    let wide : 1 < c.args.self.half = omega (arith, c.if-self-eq1.false) in
    record { made = second_half c.args.self.middle c.args.self.half c.args.self.made wide }

pub returns : goal.returns
returns c =
    let some = c.args.self.made.0 in
    let wide : 1 < c.args.self.half = omega (arith, c.if-self-eq1.false) in
    record {
      wide = wide;
      first_middle = refl;
      first_half = refl;
      second_middle = refl;
      second_half = refl;
      covered = covered c.args.self.middle c.args.self.half c.args.self.made wide;
      from_first = from_first c.args.self.middle c.args.self.half c.args.self.made wide;
      from_second = from_second c.args.self.middle c.args.self.half c.args.self.made wide;
    }
