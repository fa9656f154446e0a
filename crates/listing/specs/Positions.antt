-- Printed positions: the nearest whole number, halves away from zero.
use Rattle.std.specs.Prelude.{◌≡◌, ℕ, ◌+◌, ◌/◌, cond, ℤ, pos, ◌+ℤ◌, ◌-ℤ◌, ◌*ℤ◌, neg_ℤ, ◌≤ℤ◌, int_le, unsigned_abs}
use Rattle.integer.specs.Numbers.{Within, absℤ}

-- 2048 times the coordinate at the start of piece k of a leg on which it goes from a to b: a + (b − a) k / 2048
abbrev pub scaled_at : (a b : ℤ) → ℕ → ℤ
scaled_at a b k = pos 2048 *ℤ a +ℤ (b -ℤ a) *ℤ pos k

abbrev pub magnitude_of : ℕ → ℕ
magnitude_of n = (n + 1024) / 2048

-- n / 2048, rounded
abbrev pub rounded : ℤ → ℤ
rounded n = cond (int_le (pos 0) n) (pos (magnitude_of (unsigned_abs n))) (neg_ℤ (pos (magnitude_of (unsigned_abs n))))

-- r is the whole number nearest to n / 2048, and of two that are as near the one further from zero
pub record Nearest (n r : ℤ) : Type 0 where
  pub near : Within (pos 2048 *ℤ r -ℤ n) (pos 1024)
  pub half : absℤ (pos 2048 *ℤ r -ℤ n) ≡ pos 1024 → absℤ n ≤ℤ absℤ (pos 2048 *ℤ r)
