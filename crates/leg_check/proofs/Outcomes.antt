-- What `check` ensures of its result is the outcome of the definition.
use Rattle.std.proofs.Common.{◌≡◌, ℕ, ◌≤◌, Bool, true, false, cond, ℤ, ◌≤ℤ◌, Some, None, Ok, Err, Option, Result, sym, refl, ap, ◌∙◌, subst, arith}
use mathlib.Core.HLevel.{is_prop→PathP, ⊥_prop, Π_prop}
use native.Mathlib.Bridge.{le_prop}
use lib.Dec.{T_prop}
use lib.Signed.{le_z}
use Rattle.leg.specs.declared.shapes.Point.{Point}
use Rattle.leg.specs.declared.shapes.Leg.{Leg}
use Rattle.leg.specs.Ranges.{InRange, Apart}
use Rattle.leg.specs.Making.{points_on_map, is_same_point, leg_refusal, Joins}
use Rattle.field.specs.Meaning.{Meaning, Laws}
use Rattle.leg_check.specs.declared.verdict.Verdict.{Verdict}
use Rattle.leg_check.specs.Judging.{Judged}
use Rattle.leg_check.specs.Outcome.{leg_where, outcome_by, outcome_of}
use Rattle.leg_check.proofs.Judging.{shown}

-- ---- a leg is its ends

≤ℤ_prop : {a b : ℤ} → IsProp (a ≤ℤ b)
≤ℤ_prop {a} {b} h k = λ i. record { le = T_prop (le_z a b) h.le k.le i }

in_range_prop : (p : Point) → IsProp (InRange p)
in_range_prop p u v = λ i. (le_prop u.0 v.0 i, le_prop u.1 v.1 i, ≤ℤ_prop u.2 v.2 i, ≤ℤ_prop u.3 v.3 i)

apart_prop : (a b : Point) → IsProp (Apart a b)
apart_prop a b = Π_prop (λ _. Π_prop (λ _. Π_prop (λ _. ⊥_prop)))

same_leg : (a b : Leg) → Joins a b.start b.end → a ≡ b
same_leg a b j = λ i. record {
  start = j.0 i;
  end = j.1 i;
  start_on_map = is_prop→PathP (λ k. InRange (j.0 k)) (λ k. in_range_prop (j.0 k)) a.start_on_map b.start_on_map i;
  end_on_map = is_prop→PathP (λ k. InRange (j.1 k)) (λ k. in_range_prop (j.1 k)) a.end_on_map b.end_on_map i;
  apart = is_prop→PathP (λ k. Apart (j.0 k) (j.1 k)) (λ k. apart_prop (j.0 k) (j.1 k)) a.apart b.apart i;
}

-- ---- outcomes are told apart

same_verdict : {a b : Verdict} → ◌≡◌ {A = Result Verdict ℕ} (Ok a) (Ok b) → b ≡ a
same_verdict d = cc

same_number : {a b : ℕ} → ◌≡◌ {A = Result Verdict ℕ} (Err a) (Err b) → b ≡ a
same_number d = cc

no_verdict : {n : ℕ} {b : Verdict} → ◌≡◌ {A = Result Verdict ℕ} (Err n) (Ok b) → ⊥
no_verdict d = let z : ◌≡◌ {A = ℕ} 0 1 = cc in omega arith

module _ (start end : Point) where
  -- where no refusal fits the leg is there
  leg_by : (on : Bool) (o : points_on_map start end ≡ on) (same : Bool) (s : is_same_point start end ≡ same) → ◌≡◌ {A = ℕ} (cond on (cond same 20 0) 19) 0 →
      (leg : Leg) → Joins leg start end → leg_where start end on o same s ≡ Some leg
  leg_by true o false s e leg j = ap Some (sym (same_leg leg _ j))
  leg_by true o true s e leg j = absurd (omega arith)
  leg_by false o same s e leg j = absurd (omega arith)

  no_leg_by : (on : Bool) (o : points_on_map start end ≡ on) (same : Bool) (s : is_same_point start end ≡ same) → 1 ≤ cond on (cond same 20 0) 19 →
      leg_where start end on o same s ≡ None
  no_leg_by true o false s e = absurd (omega arith)
  no_leg_by true o true s e = refl
  no_leg_by false o same s e = refl

  pub judged_outcome : (field : Meaning) (v : Verdict) → Judged field start end v → outcome_of start end field ≡ Ok v
  judged_outcome field v judged =
      ap (outcome_by start end field) (leg_by _ refl _ refl judged.taken judged.leg judged.joins) ∙ ap Ok (sym judged.exact)

  pub refused_outcome : (field : Meaning) → 1 ≤ leg_refusal start end → outcome_of start end field ≡ Err (leg_refusal start end)
  refused_outcome field refused = ap (outcome_by start end field) (no_leg_by _ refl _ refl refused)

  -- ---- and back: what the outcome is decides what is shown of it

  taken_by : points_on_map start end ≡ true → is_same_point start end ≡ false → leg_refusal start end ≡ 0
  taken_by o s = λ i. cond (o i) (cond (s i) 20 0) 19

  module _ (field : Meaning) (laws : Laws field) where
    judged_by : (on : Bool) (o : points_on_map start end ≡ on) (same : Bool) (s : is_same_point start end ≡ same) (v : Verdict) →
        outcome_by start end field (leg_where start end on o same s) ≡ Ok v → Judged field start end v
    judged_by true o false s v e =
        let all = shown field _ laws (same_verdict e) in
        record {
          taken = taken_by o s;
          leg = record { start = start; end = end; start_on_map = _; end_on_map = _; apart = _ };
          joins = (refl, refl);
          exact = all.exact;
          relation = all.relation;
          promise = all.promise;
        }
    judged_by true o true s v e = absurd (no_verdict e)
    judged_by false o same s v e = absurd (no_verdict e)

    pub outcome_judged : (v : Verdict) → outcome_of start end field ≡ Ok v → Judged field start end v
    outcome_judged v e = judged_by _ refl _ refl v e

  -- a refusal is that of the leg
  module _ (field : Meaning) where
    refused_by : (leg : Option Leg) (n : ℕ) → outcome_by start end field leg ≡ Err n → n ≡ leg_refusal start end
    refused_by (Some leg) n e = absurd (no_verdict (sym e))
    refused_by None n e = same_number e

    leg_numbers : (on same : Bool) → cond on (cond same 20 0) 19 ≤ 20
    leg_numbers true true = omega arith
    leg_numbers true false = omega arith
    leg_numbers false same = omega arith

    pub outcome_refused : (n : ℕ) → outcome_of start end field ≡ Err n → n ≤ 20
    outcome_refused n e = subst (λ (k : ℕ). k ≤ 20) (sym (refused_by _ n e)) (leg_numbers (points_on_map start end) (is_same_point start end))
