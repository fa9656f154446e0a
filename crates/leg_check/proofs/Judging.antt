-- What `judge` has to show of its verdict, from the tests on the way to it.
use Rattle.std.proofs.Common.{◌≡◌, ℕ, ◌+◌, ◌-◌, ◌/◌, ◌<◌, Bool, true, false, ℤ, pos, sym, ap, ◌∙◌, subst}
use lib.Signed.{lt_z, mag}
use Rattle.integer.proofs.Machine.{stored, kept}
use Rattle.leg.specs.declared.shapes.Leg.{Leg}
use Rattle.field.specs.Meaning.{Meaning, Laws}
use Rattle.leg_check.specs.Halving.{clears, examine_of, verdict_of, check_of}
use Rattle.leg_check.specs.Promise.{Promise, row_of}
use Rattle.leg_check.specs.Relation.{Relation}
use Rattle.leg_check.specs.declared.verdict.Verdict.{Verdict}
use Rattle.leg_check.specs.declared.verdict.Verdict.TheVariants.{Clear, Inside, Entered, Near}
use Rattle.leg_check.specs.declared.verdict.Walk.TheVariants.{Cleared, Stopped}
use Rattle.leg_check.proofs.Verdicts.{inside_check, walked_check, entered_verdict, near_verdict}
use Rattle.leg_check.proofs.Promises.{check_promised}
use Rattle.leg_check.proofs.Relations.{check_related}

-- the code's test of an answer is the test of what the answer is
pub tested : {x z : ℤ} {b : Bool} → mag x < 9223372036854775808 → x ≡ z → b ≡ lt_z (pos 0) (stored x) → lt_z (pos 0) z ≡ b
tested ok e t = ap (lt_z (pos 0)) (sym e ∙ sym (kept ok)) ∙ sym t

module _ (field : Meaning) (leg : Leg) where
  pub shown : Laws field → {v : Verdict} → v ≡ check_of field leg → record {
    exact : v ≡ check_of field leg;
    relation : Relation (field.value leg) (clears field leg) (row_of v);
    promise : Promise (field.value leg) (field.steepness leg) (row_of v);
  }
  shown laws e = record {
    exact = e;
    relation = subst (λ (x : Verdict). Relation (field.value leg) (clears field leg) (row_of x)) (sym e) (check_related field leg);
    promise = subst (λ (x : Verdict). Promise (field.value leg) (field.steepness leg) (row_of x)) (sym e) (check_promised field laws leg);
  }

  pub inside_exact : lt_z (pos 0) (field.value leg (pos 0) (pos 1)) ≡ false → Inside ≡ check_of field leg
  inside_exact test = sym (inside_check field leg test)

  -- the start is outside
  module _ (test : lt_z (pos 0) (field.value leg (pos 0) (pos 1)) ≡ true) where
    pub clear_exact : (b : ℕ) → Cleared b ≡ examine_of field leg 11 2048 → Clear b ≡ check_of field leg
    clear_exact b walk = sym (walked_check field leg test ∙ ap (verdict_of field leg) (sym walk))

    pub near_exact : (s b : ℕ) → Stopped s b ≡ examine_of field leg 11 2048 → lt_z (pos 0) (field.value leg (pos (s + 1)) (pos 1)) ≡ true → Near ((s - 1) / 2) b ≡ check_of field leg
    near_exact s b walk end = sym (walked_check field leg test ∙ ap (verdict_of field leg) (sym walk) ∙ near_verdict field leg s b end)

    pub entered_exact : (s b : ℕ) → Stopped s b ≡ examine_of field leg 11 2048 → lt_z (pos 0) (field.value leg (pos (s + 1)) (pos 1)) ≡ false → Entered ((s - 1) / 2) b ≡ check_of field leg
    entered_exact s b walk end = sym (walked_check field leg test ∙ ap (verdict_of field leg) (sym walk) ∙ entered_verdict field leg s b end)
