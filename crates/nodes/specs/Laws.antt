-- What every node of a well-formed list keeps, on every leg.
use Rattle.std.specs.Prelude.{◌≡◌, ℕ, ◌<◌, List, length, ℤ, pos, ◌-ℤ◌, ◌*ℤ◌, ◌≤ℤ◌}
use Rattle.integer.specs.Numbers.{Within}
use Rattle.leg.specs.declared.shapes.Leg.{Leg}
use Rattle.leg.specs.Ranges.{IsPiece}
use Rattle.leg.specs.Places.{OnLeg, OnPiece}
use Rattle.affine.specs.declared.Form.{Form}
use Rattle.affine.specs.Forms.{low_end, high_end}
use Rattle.affine.specs.Holding.{Holds}
use Rattle.nodes.specs.declared.node.Node.{Node}
use Rattle.nodes.specs.Meanings.{Value, value_of, steepness_of, reach_of, form_of}
use Rattle.nodes.specs.Formed.{WellFormed, reach_bound}

-- of a value, a steepness, a reach and the forms on one leg
pub record Laws (value : Value) (steepness reach : ℤ) (form : (m r : ℤ) → Form) : Type 0 where
  -- two places with the same fraction have the same value
  pub same_fraction : (p q p' q' : ℤ) → OnLeg p q → OnLeg p' q' → p *ℤ q' ≡ p' *ℤ q → value p q *ℤ (q' *ℤ q') ≡ value p' q' *ℤ (q *ℤ q)
  -- no value is above the reach
  pub in_reach : (p q : ℤ) → OnLeg p q → Within (value p q) (reach *ℤ (q *ℤ q))
  pub steepness≥0 : pos 0 ≤ℤ steepness
  pub steepness_in_reach : (pos 2048 *ℤ steepness) ≤ℤ reach
  pub reach_in_limit : reach ≤ℤ reach_bound
  -- a form holds the value at every place of its piece
  pub holds : (m r : ℕ) → IsPiece m r → (p q : ℤ) → OnPiece (pos m) (pos r) p q → Holds (pos m) (pos r) p q (form (pos m) (pos r)) (value p q) (q *ℤ q)
  pub spread≥0 : (m r : ℕ) → IsPiece m r → pos 0 ≤ℤ (form (pos m) (pos r)).u2
  -- a form's ends lie within the steepness times the half-width of the value at the middle
  pub low_near : (m r : ℕ) → IsPiece m r → Within (low_end (form (pos m) (pos r)) -ℤ value (pos m) (pos 1)) (steepness *ℤ pos r)
  pub high_near : (m r : ℕ) → IsPiece m r → Within (high_end (form (pos m) (pos r)) -ℤ value (pos m) (pos 1)) (steepness *ℤ pos r)

abbrev pub NodeLaws : List Node → Leg → ℕ → Type 0
NodeLaws nodes leg i = Laws (value_of leg nodes i) (steepness_of leg nodes i) (reach_of nodes i) (form_of leg nodes i)

abbrev pub EveryNodeIsLawful : Type 0
EveryNodeIsLawful = (nodes : List Node) → WellFormed nodes → (leg : Leg) (i : ℕ) → i < length nodes → NodeLaws nodes leg i
