-- Places of a leg and of a piece, as fractions. The place p, q lies p/q half-steps from the start of the leg, which has 4096.
use Rattle.std.specs.Prelude.{◌≡◌, ◌+◌, ◌-◌, ◌/◌, ◌<◌, ◌⊎◌, ℤ, pos, negsuc, ◌+ℤ◌, ◌-ℤ◌, ◌*ℤ◌, ◌≤ℤ◌}
use Rattle.integer.specs.Numbers.{Within}
use Rattle.leg.specs.declared.shapes.Leg.{Leg}
use Rattle.leg.specs.declared.shapes.Piece.{Piece}
use Rattle.leg.specs.declared.shapes.Halves.{Halves}

-- p, q is a place of a leg
pub record OnLeg (p q : ℤ) : Type 0 where
  pub parts : pos 1 ≤ℤ q
  pub from : pos 0 ≤ℤ p
  pub to : p ≤ℤ (pos 4096 *ℤ q)

-- p, q is a place of the piece of middle m and half-width r, which spans m − r to m + r
pub record OnPiece (m r p q : ℤ) : Type 0 where
  pub wide : pos 1 ≤ℤ r
  pub parts : pos 1 ≤ℤ q
  pub from : ((m -ℤ r) *ℤ q) ≤ℤ p
  pub to : p ≤ℤ ((m +ℤ r) *ℤ q)

-- q times the scaled coordinate at p, q of a leg on which a coordinate goes from a to b: 4096 a + (b − a) p/q
abbrev pub coordinate : (a b p q : ℤ) → ℤ
coordinate a b p q = pos 4096 *ℤ a *ℤ q +ℤ (b -ℤ a) *ℤ p

-- the scaled coordinates of a leg at p, q lie in the scaled ranges: 4096 · 4096 = 2^24, 4096 · 16 = 65536 and 4096 · 660 = 2703360
pub record CoordinatesWithin (leg : Leg) (p q : ℤ) : Type 0 where
  pub x : Within (coordinate leg.start.x leg.end.x p q) (pos 16777216 *ℤ q)
  pub y : Within (coordinate leg.start.y leg.end.y p q) (pos 16777216 *ℤ q)
  pub z_from : (negsuc 65535 *ℤ q) ≤ℤ coordinate leg.start.z leg.end.z p q
  pub z_to : coordinate leg.start.z leg.end.z p q ≤ℤ (pos 2703360 *ℤ q)

-- p, q is a place of this piece
abbrev pub On : Piece → ℤ → ℤ → Type 0
On piece p q = OnPiece (pos piece.middle) (pos piece.half) p q

-- the halves of a piece that is not finest: which they are, and that their places are those of the piece
pub record Halved (whole : Piece) (parts : Halves) : Type 0 where
  pub wide : 1 < whole.half
  pub first_middle : parts.first.middle ≡ whole.middle - whole.half / 2
  pub first_half : parts.first.half ≡ whole.half / 2
  pub second_middle : parts.second.middle ≡ whole.middle + whole.half / 2
  pub second_half : parts.second.half ≡ whole.half / 2
  pub covered : (p q : ℤ) → On whole p q → On parts.first p q ⊎ On parts.second p q
  pub from_first : (p q : ℤ) → On parts.first p q → On whole p q
  pub from_second : (p q : ℤ) → On parts.second p q → On whole p q
