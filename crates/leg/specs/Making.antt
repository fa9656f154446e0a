-- Which numbers make a leg, a half-step and a piece, and which number sends others back.
use Rattle.std.specs.Prelude.{◌≡◌, ℕ, ◌+◌, ◌*◌, ◌%◌, ◌^◌, ◌<◌, ◌≤◌, Bool, cond, ◌&&◌, ℤ, pos, negsuc, ◌≤ℤ◌, ◌==◌, int_le, Result, MatchResult}
use Rattle.refusal.specs.declared.Refusal.{Refusal}
use Rattle.refusal.specs.Numbers.{number_of}
use Rattle.leg.specs.declared.shapes.Point.{Point}
use Rattle.leg.specs.declared.shapes.Leg.{Leg}
use Rattle.leg.specs.declared.shapes.HalfStep.{HalfStep}

-- low ≤ x ≤ high
abbrev pub is_between : ℤ → ℤ → ℤ → Bool
is_between low x high = int_le low x && int_le x high

-- a point of the map: x and y from -4096 to 4096, z from -16 to 660
abbrev pub point_on_map : Point → Bool
point_on_map p = is_between (negsuc 4095) p.x (pos 4096) && (is_between (negsuc 4095) p.y (pos 4096) && is_between (negsuc 15) p.z (pos 660))

abbrev pub points_on_map : Point → Point → Bool
points_on_map a b = point_on_map a && point_on_map b

abbrev pub is_same : ℤ → ℤ → Bool
is_same a b = int_le a b && int_le b a

abbrev pub is_same_point : Point → Point → Bool
is_same_point a b = (is_same a.x b.x && is_same a.y b.y) && is_same a.z b.z

-- the number of the first refusal that fits a leg, or 0: 19 for a coordinate outside its range, 20 for a start that is the end
abbrev pub leg_refusal : Point → Point → ℕ
leg_refusal start end = cond (points_on_map start end) (cond (is_same_point start end) 20 0) 19

-- the leg has these ends
abbrev pub Joins : Leg → Point → Point → Type 0
Joins leg start end = (leg.start ≡ start) × (leg.end ≡ end)

-- a half-step of a leg, from 0 to 4096
abbrev pub Step : ℤ → Type 0
Step at = (pos 0 ≤ℤ at) × (at ≤ℤ pos 4096)

-- what is answered to the number of a half-step: 24 for one that is none
abbrev pub MakesStep : ℤ → Result HalfStep Refusal → Type 0
MakesStep at r = MatchResult r (λ s. Step at × (pos s.at ≡ at)) (λ e. (number_of e ≡ 24) × (Step at → ⊥))

-- the bounds of a piece's middle and half-width
abbrev pub lies_in_bounds : ℤ → ℤ → Bool
lies_in_bounds m r = is_between (pos 1) r (pos 2048) && is_between (pos 1) m (pos 4095)

-- the half-width divides 2048, and the middle is an odd multiple of it
abbrev pub makes_piece : ℕ → ℕ → Bool
makes_piece m r = 2048 % r == 0 && m % (2 * r) == r

-- the half-width is a power of two from 1 to 2048, and the middle an odd multiple of it below 4096
abbrev pub Shaped : ℤ → ℤ → Type 0
Shaped m r = (k : ℕ) × (j : ℕ) × (k ≤ 11) × (r ≡ pos (2 ^ k)) × (m ≡ pos ((2 * j + 1) * 2 ^ k)) × ((2 * j + 1) * 2 ^ k < 4096)
