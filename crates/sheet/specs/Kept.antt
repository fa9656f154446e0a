-- What is promised of a leg that is checked against a sheet, alone or joined with a further field. All of it is said of the sheet as data: which nodes it has, and
-- which areas are on.
use Rattle.std.specs.Prelude.{◌≡◌, ℕ, true, cond, ℤ, pos, ◌<ℤ◌, Some, None, int_le, slice_index_or}
use Rattle.leg.specs.declared.shapes.Point.{Point}
use Rattle.leg.specs.declared.shapes.Leg.{Leg}
use Rattle.leg.specs.Making.{Joins}
use Rattle.field.specs.Meaning.{Meaning, Laws, reach_bound}
use Rattle.field.specs.Layers.{union_of}
use Rattle.leg_check.specs.Halving.{clears}
use Rattle.leg_check.specs.Promise.{Row, Free, Promise}
use Rattle.leg_check.specs.Relation.{Relation}
use Rattle.leg_check.specs.Outcome.{outcome_of}
use Rattle.nodes.specs.Meanings.{value_of}
use Rattle.areas.specs.declared.area.Area.{Area}
use Rattle.sheet.specs.Calls.{SheetData}
use Rattle.sheet.specs.Answers.{Answer, refused, checked, field_of, outcome}

-- a further field as the first or the second part of a union with the sheet's, or none
pub data Joint : Type 0 where
  alone : Joint
  first : Meaning → Joint
  second : Meaning → Joint

-- the field that the leg is checked against. Its value is the least of 2^60, the values of the areas that are on, and the value of what is joined.
abbrev pub whole_of : Joint → SheetData → Meaning
whole_of alone sheet = field_of sheet
whole_of (first f) sheet = union_of f (field_of sheet)
whole_of (second f) sheet = union_of (field_of sheet) f

abbrev pub joint_reach : Joint → ℤ
joint_reach alone = pos 0
joint_reach (first f) = f.reach
joint_reach (second f) = f.reach

-- what is joined is a lawful field
abbrev pub LawfulJoint : Joint → Type 0
LawfulJoint alone = Unit {0}
LawfulJoint (first f) = Laws f
LawfulJoint (second f) = Laws f

-- 23 for a field that reaches too far, 19 or 20 for the leg, or the verdict that halving yields
abbrev pub limited_answer : Meaning → Point → Point → Answer
limited_answer field start end = cond (int_le field.reach reach_bound) (outcome (outcome_of start end field)) (refused 23)

abbrev pub check_answer : Joint → SheetData → Point → Point → Answer
check_answer joint sheet start end = limited_answer (whole_of joint sheet) start end

-- what a verdict shows of the leg. F(p, q) is `(whole_of joint sheet).value leg p q`: the value at the place p, q times q².
pub record Shown (joint : Joint) (sheet : SheetData) (start end : Point) (row : Row) : Type 0 where
  -- the leg that joins the points
  pub leg : Leg
  pub joins : Joins leg start end
  -- clear: F(p, q) > 0 at every place. Entered or near in piece k: F(p, q) > 0 at every place up to half-step 2k; entered: F(2k + 2, 1) ≤ 0; near:
  -- F(2k + 2, 1) > 0 and F(2k + 1, 1) is at most the steepness. Inside exactly when F(0, 1) ≤ 0.
  pub promise : Promise ((whole_of joint sheet).value leg) ((whole_of joint sheet).steepness leg) row
  -- a clear leg is outside each area that is on, at every place
  pub outside : row.answer ≡ 0 → (number : ℕ) (area : Area) → slice_index_or sheet.slots number None ≡ Some area → area.on ≡ true → Free (value_of leg sheet.nodes area.node) 4096
  -- the piece named is the first finest piece that no cleared piece contains, and the bounds are counted
  pub relation : Relation ((whole_of joint sheet).value leg) (clears (whole_of joint sheet) leg) row

-- The promise of a check: of a sheet, joined or not, and any two points.
pub record Kept (joint : Joint) (sheet : SheetData) (start end : Point) (answer : Answer) : Type 0 where
  -- it is answered by the rules, and in no other way
  pub exact : answer ≡ check_answer joint sheet start end
  -- 23 comes only where what is joined reaches further than 2^60
  pub only_far : answer ≡ refused 23 → pos 1152921504606846976 <ℤ joint_reach joint
  pub verdict : (row : Row) → answer ≡ checked row → Shown joint sheet start end row
