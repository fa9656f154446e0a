-- What the terrain over a lattice of heights means as a field, and what is said of it beside the laws of a field.
use Rattle.std.specs.Prelude.{◌≡◌, ℕ, ◌<◌, ℤ, pos, ◌-ℤ◌, ◌*ℤ◌, ◌≤ℤ◌}
use Rattle.integer.specs.Numbers.{Within, absℤ}
use Rattle.leg.specs.declared.shapes.Leg.{Leg}
use Rattle.leg.specs.Places.{OnLeg}
use Rattle.field.specs.Meaning.{Meaning}
use Rattle.lattice.specs.Terrain.{value, greatest_step, steepness, bound, reach}

abbrev pub terrain_of : (ℕ → ℕ → ℤ) → Meaning
terrain_of h = record {
  value = λ leg p q. value h leg p q;
  steepness = λ leg. steepness (pos (greatest_step h)) leg;
  bound = λ leg m r. bound h (pos (greatest_step h)) leg (pos m) (pos r);
  reach = reach;
}

-- The values at any two places of a leg differ by at most the steepness times the half-steps between them: |F(p, q)/q² − F(p', q')/q'²| ≤ L |p/q − p'/q'|
abbrev pub SteepBetween : (ℕ → ℕ → ℤ) → Type 0
SteepBetween h =
    (leg : Leg) (p q p' q' : ℤ) → OnLeg p q → OnLeg p' q' →
    Within (value h leg p q *ℤ (q' *ℤ q') -ℤ value h leg p' q' *ℤ (q *ℤ q)) (steepness (pos (greatest_step h)) leg *ℤ absℤ (p *ℤ q' -ℤ p' *ℤ q) *ℤ (q *ℤ q'))

-- Worked values over ground whose heights are all 10: a level leg at z = 11 has the value 2^36 everywhere, so at every half-step, and one at z = 10 is inside at its start.
pub record WorkedTerrain : Type 0 where
  pub above : (h : ℕ → ℕ → ℤ) → ((i j : ℕ) → i < 129 → j < 129 → h i j ≡ pos 10) → (leg : Leg) → leg.start.z ≡ pos 11 → leg.end.z ≡ pos 11 →
      (p q : ℤ) → value h leg p q ≡ pos 68719476736 *ℤ (q *ℤ q)
  pub inside : (h : ℕ → ℕ → ℤ) → ((i j : ℕ) → i < 129 → j < 129 → h i j ≡ pos 10) → (leg : Leg) → leg.start.z ≡ pos 10 → leg.end.z ≡ pos 10 →
      value h leg (pos 0) (pos 1) ≤ℤ pos 0
