-- Places of a piece, and the coordinates at the places of a leg.
use Rattle.std.proofs.Common.{ℕ, ◌≤◌, ℤ, pos, negsuc, ◌-ℤ◌, ◌*ℤ◌, ◌≤ℤ◌, refl, arith}
use borrow.Author.Differences.{ints}
use Rattle.integer.specs.Numbers.{Within}
use Rattle.integer.proofs.Ring.{ring, ◌:+◌, ◌:-◌, ◌:*◌, con, ◌:=◌}
use Rattle.integer.proofs.Order.{gap, by_gap, ≥0_same, sum≥0, product≥0, natural≥0}
use Rattle.integer.proofs.Absolute.{within_from, within_natural}
use Rattle.leg.specs.declared.shapes.Leg.{Leg}
use Rattle.leg.specs.Places.{OnLeg, OnPiece, coordinate, CoordinatesWithin}

-- |p − m q| ≤ r q
pub near_middle : {m r p q : ℤ} → OnPiece m r p q → Within (p -ℤ m *ℤ q) (r *ℤ q)
near_middle {m} {r} {p} {q} at =
    within_from _ _
    (≥0_same (gap at.to) (ring 4 (λ m r p q. (m :+ r) :* q :- p := r :* q :- (p :- m :* q)) refl m r p q))
    (≥0_same (gap at.from) (ring 4 (λ m r p q. p :- (m :- r) :* q := r :* q :+ (p :- m :* q)) refl m r p q))

-- ---- a place is a weighted mean of the ends: 4096 a q + (b − a) p = a (4096 q − p) + b p

module _ (a b k p q : ℤ) (at : OnLeg p q) where
  above_both : k ≤ℤ a → k ≤ℤ b → (pos 4096 *ℤ k *ℤ q) ≤ℤ coordinate a b p q
  above_both h g =
      by_gap (pos 4096 *ℤ k *ℤ q) (coordinate a b p q) _ (sum≥0 (product≥0 (gap h) (gap at.to)) (product≥0 (gap g) at.from))
      (ring 5 (λ a b k p q. (a :- k) :* (con (pos 4096) :* q :- p) :+ (b :- k) :* p := con (pos 4096) :* a :* q :+ (b :- a) :* p :- con (pos 4096) :* k :* q) refl a b k p q)

  below_both : a ≤ℤ k → b ≤ℤ k → coordinate a b p q ≤ℤ (pos 4096 *ℤ k *ℤ q)
  below_both h g =
      by_gap (coordinate a b p q) (pos 4096 *ℤ k *ℤ q) _ (sum≥0 (product≥0 (gap h) (gap at.to)) (product≥0 (gap g) at.from))
      (ring 5 (λ a b k p q. (k :- a) :* (con (pos 4096) :* q :- p) :+ (k :- b) :* p := con (pos 4096) :* k :* q :- (con (pos 4096) :* a :* q :+ (b :- a) :* p)) refl a b k p q)

-- a coordinate whose ends are within 4096
flat : (p q : ℤ) → OnLeg p q → (c d : ℤ) → Within c (pos 4096) → Within d (pos 4096) → Within (coordinate c d p q) (pos 16777216 *ℤ q)
flat p q at c d v w =
    within_from _ _
    (gap (below_both c d (pos 4096) p q at v.below w.below))
    (≥0_same (gap (above_both c d (negsuc 4095) p q at v.above w.above)) (ring 2 (λ x q. x :- con (negsuc 16777215) :* q := con (pos 16777216) :* q :+ x) refl (coordinate c d p q) q))

pub coordinates_within : (leg : Leg) (p q : ℤ) → OnLeg p q → CoordinatesWithin leg p q
coordinates_within leg p q at =
    let a = leg.start_on_map in let b = leg.end_on_map in
    record {
      x = flat p q at leg.start.x leg.end.x (within_natural leg.start.x 4096 a.0) (within_natural leg.end.x 4096 b.0);
      y = flat p q at leg.start.y leg.end.y (within_natural leg.start.y 4096 a.1) (within_natural leg.end.y 4096 b.1);
      z_from = above_both leg.start.z leg.end.z (negsuc 15) p q at a.2 b.2;
      z_to = below_both leg.start.z leg.end.z (pos 660) p q at a.3 b.3;
    }

-- the scaled coordinate at a half-step
pub coordinate_small : (a b : ℤ) (s : ℕ) → Within a (pos 4096) → Within b (pos 4096) → s ≤ 4096 → Within (coordinate a b (pos s) (pos 1)) (pos 16777216)
coordinate_small a b s v w h = flat (pos s) (pos 1) (record { parts = record { le = tt }; from = natural≥0 s; to = omega (arith, ints) }) a b v w
