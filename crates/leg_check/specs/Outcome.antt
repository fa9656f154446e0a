-- What a check of two points answers, as a value of the field and the points alone.
use Rattle.std.specs.Prelude.{◌≡◌, ℕ, Bool, true, false, Some, None, Ok, Err, Option, Result, refl}
use Rattle.std.proofs.lemmas.Bool.{and_parts}
use Rattle.leg.specs.declared.shapes.Point.{Point}
use Rattle.leg.specs.declared.shapes.Leg.{Leg}
use Rattle.leg.specs.Making.{point_on_map, points_on_map, is_same_point, leg_refusal}
use Rattle.leg.proofs.Tests.{lies_in_range, apart}
use Rattle.field.specs.Meaning.{Meaning}
use Rattle.leg_check.specs.declared.verdict.Verdict.{Verdict}
use Rattle.leg_check.specs.Halving.{check_of}

module _ (start end : Point) where
  -- the leg, where both points are on the map and they differ
  abbrev pub leg_where : (on : Bool) → points_on_map start end ≡ on → (same : Bool) → is_same_point start end ≡ same → Option Leg
  leg_where true on false apart' =
      let both = and_parts (point_on_map start) (point_on_map end) on in
      Some (record { start = start; end = end; start_on_map = lies_in_range start both.0; end_on_map = lies_in_range end both.1; apart = apart start end apart' })
  leg_where true on true same = None
  leg_where false off same e = None

  -- the leg from one point to the other, if these make one
  abbrev pub leg_of : Option Leg
  leg_of = leg_where (points_on_map start end) refl (is_same_point start end) refl

  -- the verdict on a leg; where there is none, the number of the refusal
  abbrev pub outcome_by : Meaning → Option Leg → Result Verdict ℕ
  outcome_by field (Some leg) = Ok (check_of field leg)
  outcome_by field None = Err (leg_refusal start end)

  abbrev pub outcome_of : Meaning → Result Verdict ℕ
  outcome_of field = outcome_by field leg_of
