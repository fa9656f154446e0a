-- The verdict, by its two tests of a value.
use Rattle.std.proofs.Common.{◌≡◌, ℕ, ◌+◌, ◌-◌, ◌/◌, true, false, pos}
use lib.Signed.{lt_z}
use Rattle.leg.specs.declared.shapes.Leg.{Leg}
use Rattle.field.specs.Meaning.{Meaning}
use Rattle.leg_check.specs.Halving.{examine_of, verdict_of, check_of}
use Rattle.leg_check.specs.declared.verdict.Walk.TheVariants.{Stopped}
use Rattle.leg_check.specs.declared.verdict.Verdict.TheVariants.{Inside, Entered, Near}

module _ (field : Meaning) (leg : Leg) where
  pub inside_check : lt_z (pos 0) (field.value leg (pos 0) (pos 1)) ≡ false → check_of field leg ≡ Inside
  inside_check e = rw (check_of, e)

  pub walked_check : lt_z (pos 0) (field.value leg (pos 0) (pos 1)) ≡ true → check_of field leg ≡ verdict_of field leg (examine_of field leg 11 2048)
  walked_check e = rw (check_of, e)

  pub near_verdict : (s b : ℕ) → lt_z (pos 0) (field.value leg (pos (s + 1)) (pos 1)) ≡ true → verdict_of field leg (Stopped s b) ≡ Near ((s - 1) / 2) b
  near_verdict s b e = rw (verdict_of, e)

  pub entered_verdict : (s b : ℕ) → lt_z (pos 0) (field.value leg (pos (s + 1)) (pos 1)) ≡ false → verdict_of field leg (Stopped s b) ≡ Entered ((s - 1) / 2) b
  entered_verdict s b e = rw (verdict_of, e)
