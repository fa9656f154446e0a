-- The promise follows from the answer being that of the rules.
use Rattle.std.proofs.Common.{◌≡◌, ℕ, ◌+◌, ◌^◌, ◌≤◌, Bool, true, false, cond, length, ℤ, pos, ◌+ℤ◌, ◌≤ℤ◌, ◌<ℤ◌, Ok, Err, Result, sym, refl, ap, ◌∙◌, subst, arith, MatchResult}
use borrow.Author.Differences.{ints}
use lib.Signed.{le_z}
use Rattle.std.specs.Int.{int_min, int_max}
use Rattle.std.proofs.lemmas.Int.{clamps}
use Rattle.std.proofs.lemmas.Bool.{cond-true, cond-false}
use Rattle.refusal.specs.declared.Refusal.{Refusal}
use Rattle.refusal.specs.Numbers.{number_of}
use Rattle.leg.specs.declared.shapes.Point.{Point}
use Rattle.leg.specs.declared.shapes.Leg.{Leg}
use Rattle.leg.specs.Making.{leg_refusal}
use Rattle.field.specs.Meaning.{Meaning, Laws, reach_bound}
use Rattle.field.specs.Joining.{union_laws}
use Rattle.leg_check.specs.declared.verdict.Verdict.{Verdict}
use Rattle.leg_check.specs.Judging.{Judged}
use Rattle.leg_check.specs.Promise.{Row, row_of}
use Rattle.leg_check.specs.Outcome.{outcome_of}
use Rattle.leg_check.proofs.Outcomes.{judged_outcome, refused_outcome, outcome_judged, outcome_refused}
use Rattle.nodes.specs.Meanings.{value_of}
use Rattle.areas.specs.Fields.{least_value}
use Rattle.areas.specs.OverLaws.{over_laws, over_reach}
use Rattle.areas.proofs.Least.{least_under}
use Rattle.sheet.specs.declared.sheet.Sheet.{Sheet}
use Rattle.sheet.specs.Calls.{SheetData}
use Rattle.sheet.specs.Held.{data_of}
use Rattle.sheet.specs.Standing.{Standing}
use Rattle.sheet.specs.Answers.{Answer, refused, checked, found, field_of, outcome}
use Rattle.sheet.specs.Kept.{Joint, alone, first, second, whole_of, joint_reach, LawfulJoint, limited_answer, check_answer, Shown, Kept}
use Rattle.sheet.proofs.Sent.{some_number}

-- ---- answers are told apart

same_row : {a b : Row} → checked a ≡ checked b → a ≡ b
same_row e = cc

refused_is_not_checked : {n : ℕ} {row : Row} → refused n ≡ checked row → ⊥
refused_is_not_checked e = let z : ◌≡◌ {A = ℕ} 0 1 = cc in omega arith

checked_is_not_refused : {n : ℕ} {row : Row} → checked row ≡ refused n → ⊥
checked_is_not_refused e = let z : ◌≡◌ {A = ℕ} 0 1 = cc in omega arith

-- ---- the field of a sheet

module _ (sheet : SheetData) (ok : Standing sheet) where
  few_slots : length sheet.slots ≤ 16
  few_slots = let e = ok.sixteen in omega arith

  pub field_laws : Laws (field_of sheet)
  field_laws = over_laws sheet.nodes sheet.slots few_slots ok.stands ok.accepted

  field_reach : (field_of sheet).reach ≤ℤ pos (2 ^ 60 + 2 ^ 15)
  field_reach = over_reach sheet.nodes sheet.slots few_slots ok.stands ok.accepted

  pub alone_in_limit : (field_of sheet).reach ≤ℤ reach_bound
  alone_in_limit = field_laws.reach_in_limit

  -- joined with what reaches no further than 2^60 it is in the limit
  far : (joint : Joint) → le_z (whole_of joint sheet).reach reach_bound ≡ false → pos 1152921504606846976 <ℤ joint_reach joint
  far alone e = absurd (plain (field_of sheet).reach alone_in_limit e)
    where
      plain : (r : ℤ) → r ≤ℤ reach_bound → le_z r reach_bound ≡ false → ⊥
      plain r h t = omega (arith, ints)
  far (first f) e = plain f.reach (field_of sheet).reach field_reach e
    where
      plain : (a b : ℤ) → b ≤ℤ pos (2 ^ 60 + 2 ^ 15) → le_z (int_max a b +ℤ pos 2048) reach_bound ≡ false → pos 1152921504606846976 <ℤ a
      plain a b h t = omega (arith, ints, clamps)
  far (second f) e = plain (field_of sheet).reach f.reach field_reach e
    where
      plain : (a b : ℤ) → a ≤ℤ pos (2 ^ 60 + 2 ^ 15) → le_z (int_max a b +ℤ pos 2048) reach_bound ≡ false → pos 1152921504606846976 <ℤ b
      plain a b h t = omega (arith, ints, clamps)

  lies_in_limit : (r : ℤ) → le_z r reach_bound ≡ true → r ≤ℤ reach_bound
  lies_in_limit r t = omega (arith, ints)

  whole_laws : (joint : Joint) → LawfulJoint joint → le_z (whole_of joint sheet).reach reach_bound ≡ true → Laws (whole_of joint sheet)
  whole_laws alone lawful limit = field_laws
  whole_laws (first f) lawful limit = union_laws f (field_of sheet) lawful field_laws (lies_in_limit _ limit)
  whole_laws (second f) lawful limit = union_laws (field_of sheet) f field_laws lawful (lies_in_limit _ limit)

  whole_under : (joint : Joint) (leg : Leg) (p q : ℤ) → (whole_of joint sheet).value leg p q ≤ℤ least_value sheet.nodes sheet.slots leg p q
  whole_under alone leg p q = plain (least_value sheet.nodes sheet.slots leg p q)
    where
      plain : (a : ℤ) → a ≤ℤ a
      plain a = omega (arith, ints)
  whole_under (first f) leg p q = plain (f.value leg p q) (least_value sheet.nodes sheet.slots leg p q)
    where
      plain : (a b : ℤ) → int_min a b ≤ℤ b
      plain a b = omega (arith, ints, clamps)
  whole_under (second f) leg p q = plain (least_value sheet.nodes sheet.slots leg p q) (f.value leg p q)
    where
      plain : (a b : ℤ) → int_min a b ≤ℤ a
      plain a b = omega (arith, ints, clamps)

-- ---- the promise

module _ (joint : Joint) (sheet : SheetData) (ok : Standing sheet) (lawful : LawfulJoint joint) (start end : Point) where
  shown_of : (v : Verdict) → Judged (whole_of joint sheet) start end v → Shown joint sheet start end (row_of v)
  shown_of v j = record {
    leg = j.leg;
    joins = j.joins;
    promise = j.promise;
    outside = λ clear number area is on p q place to.
        above ((whole_of joint sheet).value j.leg p q) (least_value sheet.nodes sheet.slots j.leg p q) (value_of j.leg sheet.nodes area.node p q)
        (j.promise.clear clear p q place to) (whole_under sheet ok joint j.leg p q) (least_under sheet.nodes sheet.slots j.leg p q number area is on);
    relation = j.relation;
  }
    where
      above : (a b c : ℤ) → pos 0 <ℤ a → a ≤ℤ b → b ≤ℤ c → pos 0 <ℤ c
      above a b c h k l = omega (arith, ints)

  by_outcome : le_z (whole_of joint sheet).reach reach_bound ≡ true → (o : Result Verdict ℕ) → outcome_of start end (whole_of joint sheet) ≡ o →
      (row : Row) → outcome o ≡ checked row → Shown joint sheet start end row
  by_outcome limit (Ok v) e row d =
      subst (λ (r : Row). Shown joint sheet start end r) (same_row d)
      (shown_of v (outcome_judged start end (whole_of joint sheet) (whole_laws sheet ok joint lawful limit) v e))
  by_outcome limit (Err n) e row d = absurd (refused_is_not_checked d)

  by_limit : (b : Bool) → le_z (whole_of joint sheet).reach reach_bound ≡ b → (row : Row) → cond b (outcome (outcome_of start end (whole_of joint sheet))) (refused 23) ≡ checked row →
      Shown joint sheet start end row
  by_limit true limit row d = by_outcome limit (outcome_of start end (whole_of joint sheet)) refl row d
  by_limit false limit row d = absurd (refused_is_not_checked d)

  no_23 : (o : Result Verdict ℕ) → outcome_of start end (whole_of joint sheet) ≡ o → outcome o ≡ refused 23 → ⊥
  no_23 (Ok v) e d = checked_is_not_refused d
  no_23 (Err n) e d = let few = outcome_refused start end (whole_of joint sheet) n e in let same : n ≡ 23 = cc in omega arith

  by_far : (b : Bool) → le_z (whole_of joint sheet).reach reach_bound ≡ b → cond b (outcome (outcome_of start end (whole_of joint sheet))) (refused 23) ≡ refused 23 →
      pos 1152921504606846976 <ℤ joint_reach joint
  by_far true limit d = absurd (no_23 (outcome_of start end (whole_of joint sheet)) refl d)
  by_far false limit d = far sheet ok joint limit

  pub kept_of : (answer : Answer) → answer ≡ check_answer joint sheet start end → Kept joint sheet start end answer
  kept_of answer e = record {
    exact = e;
    only_far = λ d. by_far (le_z (whole_of joint sheet).reach reach_bound) refl (sym e ∙ d);
    verdict = λ row d. by_limit (le_z (whole_of joint sheet).reach reach_bound) refl row (sym e ∙ d);
  }

-- ---- what the code answers

-- what `check` ensures of its result is the outcome of the definition
pub found_is : (field : Meaning) (start end : Point) (r : Result Verdict Refusal) → MatchResult r (λ v. Judged field start end v) (λ e. number_of e ≡ leg_refusal start end) →
    found r ≡ outcome (outcome_of start end field)
found_is field start end (Ok v) judged = sym (ap outcome (judged_outcome start end field v judged))
found_is field start end (Err e) fits =
    ap refused fits ∙ sym (ap outcome (refused_outcome start end field (subst (λ (n : ℕ). 1 ≤ n) fits (some_number e))))

module _ (field : Meaning) (start end : Point) where
  pub near_answer : field.reach ≤ℤ reach_bound → outcome (outcome_of start end field) ≡ limited_answer field start end
  near_answer h = sym (cond-true (le_z field.reach reach_bound) (outcome (outcome_of start end field)) (refused 23) (tested field.reach h))
    where
      tested : (r : ℤ) → r ≤ℤ reach_bound → le_z r reach_bound ≡ true
      tested r h = grind (arith, ints)

  pub far_answer : (field.reach ≤ℤ reach_bound → ⊥) → refused 23 ≡ limited_answer field start end
  far_answer over = sym (cond-false (le_z field.reach reach_bound) (outcome (outcome_of start end field)) (refused 23) (failed (le_z field.reach reach_bound) refl))
    where
      passed : (r : ℤ) → le_z r reach_bound ≡ true → r ≤ℤ reach_bound
      passed r t = omega (arith, ints)

      failed : (b : Bool) → le_z field.reach reach_bound ≡ b → b ≡ false
      failed true e = absurd (over (passed field.reach e))
      failed false e = refl

pub standing_of : (sheet : Sheet) → Standing (data_of sheet)
standing_of sheet = record { few = sheet.few; sixteen = sheet.sixteen; stands = sheet.stands; accepted = sheet.accepted }
