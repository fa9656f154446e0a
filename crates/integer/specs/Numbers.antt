-- Whole numbers without limit: absolute value, |x| ≤ y as two bounds, and division rounded down and up.
use Rattle.std.specs.Prelude.{◌/◌, ℤ, pos, negsuc, ◌+ℤ◌, ◌*ℤ◌, neg_ℤ, ◌≤ℤ◌, ◌<ℤ◌, unsigned_abs}

-- |z|
abbrev pub absℤ : ℤ → ℤ
absℤ z = pos (unsigned_abs z)

-- |x| ≤ y
pub record Within (x y : ℤ) : Type 0 where
  pub above : neg_ℤ y ≤ℤ x
  pub below : x ≤ℤ y

-- z / d rounded down, for d ≥ 1
abbrev pub floor_by : ℤ → ℤ → ℤ
floor_by (pos a) d = pos (a / unsigned_abs d)
floor_by (negsuc a) d = negsuc (a / unsigned_abs d)

-- z / d rounded up, for d ≥ 1
abbrev pub ceiling_by : ℤ → ℤ → ℤ
ceiling_by z d = neg_ℤ (floor_by (neg_ℤ z) d)

-- q is z / d rounded down: d q ≤ z < d q + d
pub record RoundedDown (z d q : ℤ) : Type 0 where
  pub below : (d *ℤ q) ≤ℤ z
  pub above : z <ℤ (d *ℤ q +ℤ d)

-- q is z / d rounded up: z ≤ d q < z + d
pub record RoundedUp (z d q : ℤ) : Type 0 where
  pub above : z ≤ℤ (d *ℤ q)
  pub below : (d *ℤ q) <ℤ (z +ℤ d)
