-- What a check of two points answers, where they make a leg.
use Rattle.std.specs.Prelude.{◌≡◌}
use Rattle.leg.specs.declared.shapes.Point.{Point}
use Rattle.leg.specs.declared.shapes.Leg.{Leg}
use Rattle.leg.specs.Making.{leg_refusal, Joins}
use Rattle.field.specs.Meaning.{Meaning}
use Rattle.leg_check.specs.Halving.{clears, check_of}
use Rattle.leg_check.specs.Promise.{Promise, row_of}
use Rattle.leg_check.specs.Relation.{Relation}
use Rattle.leg_check.specs.declared.verdict.Verdict.{Verdict}

pub record Judged (field : Meaning) (start end : Point) (v : Verdict) : Type 0 where
  pub taken : leg_refusal start end ≡ 0
  -- the leg that joins them
  pub leg : Leg
  pub joins : Joins leg start end
  pub exact : v ≡ check_of field leg
  pub relation : Relation (field.value leg) (clears field leg) (row_of v)
  pub promise : Promise (field.value leg) (field.steepness leg) (row_of v)
