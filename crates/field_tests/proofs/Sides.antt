-- The numbers of a straight border fit 64 bits.
use Rattle.std.proofs.Common.{◌≡◌, ℤ, pos, ◌-ℤ◌, ◌*ℤ◌, refl, ◌∙◌}
use Rattle.integer.specs.Numbers.{Within}
use Rattle.integer.proofs.Ring.{ring, ◌:+◌, ◌:-◌, ◌:*◌, con, ◌:=◌}
use Rattle.integer.proofs.Machine.{stored, Is, is, is_of, is_numeral, is_stored, is_difference, is_product}
use Rattle.leg.specs.Places.{coordinate}
use Rattle.field_tests.specs.Side.{ahead}

-- r is the scaled coordinate at s
module _ (a b x s : ℤ) (w : Within x (pos 4096)) {r : ℤ} (e : r ≡ coordinate a b s (pos 1)) (f : Within r (pos 16777216)) where
  whole : Is (stored r -ℤ stored (pos 4096 *ℤ stored x)) (coordinate a b s (pos 1) -ℤ pos 4096 *ℤ x) 33554432
  whole = is_difference (is_stored (is_of e f) tt) (is_stored (is_product (is_numeral 4096) (is_stored (is w) tt)) tt)

  pub ahead_is : stored (stored r -ℤ stored (pos 4096 *ℤ stored x)) ≡ ahead (a -ℤ x) (b -ℤ a) s (pos 1)
  ahead_is =
      (is_stored whole tt).same
      ∙ ring 4 (λ a b x s. con (pos 4096) :* a :* con (pos 1) :+ (b :- a) :* s :- con (pos 4096) :* x := con (pos 4096) :* (a :- x) :* con (pos 1) :+ (b :- a) :* s) refl a b x s
