-- What a field means, and the laws that a lawful one keeps.
use Rattle.std.specs.Prelude.{◌≡◌, ℕ, ◌+◌, ◌^◌, ℤ, pos, ◌-ℤ◌, ◌*ℤ◌, ◌≤ℤ◌}
use Rattle.integer.specs.Numbers.{Within}
use Rattle.leg.specs.declared.shapes.Leg.{Leg}
use Rattle.leg.specs.Ranges.{IsPiece}
use Rattle.leg.specs.Places.{OnLeg, OnPiece}
use Rattle.affine.specs.declared.Form.{Form}
use Rattle.affine.specs.Forms.{low_end, high_end}
use Rattle.affine.specs.Holding.{Holds}

-- The four answers of a field, over every leg. The value at the place p, q of a leg is `value leg p q` divided by q². The steepness bounds, for each half-step of
-- a piece's half-width, how far the value is from that at the middle. The bound on the piece of middle m and half-width r is the form `bound leg m r`. No value is
-- above the reach in absolute value.
pub record Meaning : Type 0 where
  pub value : Leg → ℤ → ℤ → ℤ
  pub steepness : Leg → ℤ
  pub bound : Leg → ℕ → ℕ → Form
  pub reach : ℤ

-- the greatest reach that a field may have
abbrev pub reach_bound : ℤ
reach_bound = pos (2 ^ 60 + 2 ^ 20)

-- what every lawful field keeps
pub record Laws (field : Meaning) : Type 0 where
  -- two places with the same fraction have the same value
  pub same_fraction : (leg : Leg) (p q p' q' : ℤ) → OnLeg p q → OnLeg p' q' → p *ℤ q' ≡ p' *ℤ q → field.value leg p q *ℤ (q' *ℤ q') ≡ field.value leg p' q' *ℤ (q *ℤ q)
  -- no value is above the reach
  pub in_reach : (leg : Leg) (p q : ℤ) → OnLeg p q → Within (field.value leg p q) (field.reach *ℤ (q *ℤ q))
  pub steepness≥0 : (leg : Leg) → pos 0 ≤ℤ field.steepness leg
  pub steepness_in_reach : (leg : Leg) → (pos 2048 *ℤ field.steepness leg) ≤ℤ field.reach
  pub reach_in_limit : field.reach ≤ℤ reach_bound
  -- a bound holds the value at every place of its piece
  pub holds : (leg : Leg) (m r : ℕ) → IsPiece m r → (p q : ℤ) → OnPiece (pos m) (pos r) p q → Holds (pos m) (pos r) p q (field.bound leg m r) (field.value leg p q) (q *ℤ q)
  -- a bound's ends lie within the steepness times the half-width of the value at the middle
  pub low_near : (leg : Leg) (m r : ℕ) → IsPiece m r → Within (low_end (field.bound leg m r) -ℤ field.value leg (pos m) (pos 1)) (field.steepness leg *ℤ pos r)
  pub high_near : (leg : Leg) (m r : ℕ) → IsPiece m r → Within (high_end (field.bound leg m r) -ℤ field.value leg (pos m) (pos 1)) (field.steepness leg *ℤ pos r)
