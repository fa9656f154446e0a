-- What the numbers of a leg, of a half-step and of a piece keep to.
use Rattle.std.specs.Prelude.{◌≡◌, ℕ, ◌*◌, ◌%◌, ◌<◌, ◌≤◌, ℤ, pos, negsuc, ◌≤ℤ◌, ◌≢◌, unsigned_abs}
use Rattle.leg.specs.declared.shapes.Point.{Point}

-- a point of the map: x and y are whole tenths of a nautical mile from -4096 to 4096, z is whole hundreds of feet from -16 to 660
abbrev pub InRange : Point → Type 0
InRange p = (unsigned_abs p.x ≤ 4096) × (unsigned_abs p.y ≤ 4096) × (negsuc 15 ≤ℤ p.z) × (p.z ≤ℤ pos 660)

-- two points differ
abbrev pub Apart : Point → Point → Type 0
Apart a b = a.x ≡ b.x → a.y ≡ b.y → a.z ≢ b.z

-- the half-width divides 2048, so that it is a power of two, and the middle is an odd multiple of it below 4096
abbrev pub IsPiece : ℕ → ℕ → Type 0
IsPiece m r = (0 < r) × (2048 % r ≡ 0) × (m % (2 * r) ≡ r) × (m < 4096)
