-- What the tests of a leg's numbers say.
use Rattle.std.proofs.Common.{◌≡◌, Bool, true, false, ◌&&◌, ℤ, pos, negsuc, sym, ◌∙◌, arith}
use lib.Signed.{le_z}
use borrow.Author.Differences.{ints}
use Rattle.std.proofs.lemmas.Bool.{and_parts, and_from, both_ways}
use Rattle.leg.specs.declared.shapes.Point.{Point}
use Rattle.leg.specs.Ranges.{InRange, Apart}
use Rattle.leg.specs.Making.{is_between, point_on_map, is_same, is_same_point}

-- the second part of `a && b`, where the first came out true
pub and_second : (a b r s : Bool) → r ≡ true → r ≡ a → s ≡ b → s ≡ (a && b)
and_second a b r s t e f = rw (sym e ∙ t) f

pub lies_in_range : (p : Point) → point_on_map p ≡ true → InRange p
lies_in_range p t =
    let a = and_parts (is_between (negsuc 4095) p.x (pos 4096)) _ t in
    let b = and_parts (is_between (negsuc 4095) p.y (pos 4096)) (is_between (negsuc 15) p.z (pos 660)) a.1 in
    let xs = and_parts (le_z (negsuc 4095) p.x) (le_z p.x (pos 4096)) a.0 in
    let ys = and_parts (le_z (negsuc 4095) p.y) (le_z p.y (pos 4096)) b.0 in
    let zs = and_parts (le_z (negsuc 15) p.z) (le_z p.z (pos 660)) b.1 in
    (omega (arith, ints), omega (arith, ints), omega (arith, ints), omega (arith, ints))

pub apart : (a b : Point) → is_same_point a b ≡ false → Apart a b
apart a b t ex ey ez = both_ways (is_same_point a b) t (and_from _ _ (and_from _ _ (equals a.x b.x ex) (equals a.y b.y ey)) (equals a.z b.z ez))
  where
    equals : (a b : ℤ) → a ≡ b → is_same a b ≡ true
    equals a b e = and_from (le_z a b) (le_z b a) (grind (arith, ints)) (grind (arith, ints))
