-- That the numbers of a lawful field, and what the layers make of them, fit 64 bits. All of it follows from the laws.
use Rattle.std.proofs.Common.{◌≡◌, ℕ, ◌<◌, ◌≤◌, ℤ, pos, ◌-ℤ◌, ◌*ℤ◌, ◌≤ℤ◌, sym, ◌∙◌, subst, arith}
use lib.IntN.{*ℤ_comm}
use lib.Signed.{mag}
use borrow.Author.Differences.{ints}
use Rattle.integer.specs.Numbers.{Within}
use Rattle.integer.proofs.Order.{≤ℤ_trans, times≤}
use Rattle.integer.proofs.Absolute.{under, over, within_from}
use Rattle.integer.proofs.Machine.{stored, kept}
use Rattle.leg.specs.declared.shapes.Leg.{Leg}
use Rattle.leg.specs.Ranges.{IsPiece}
use Rattle.leg.specs.Places.{OnLeg}
use Rattle.leg.proofs.Halving.{width_limit}
use Rattle.affine.specs.declared.Form.{Form}
use Rattle.affine.specs.Fits.{LowFits, LesserFits, OppositeFits, EndsWithin, end_limit}
use Rattle.affine.proofs.Fitting.{ends_bounded, ends_fit, lesser_fits, opposite_fits}
use Rattle.field.specs.Meaning.{Meaning, Laws, reach_bound}
use Rattle.field.specs.Bounds.{at_middle, spread}

-- a half-step is a place
pub step_on_leg : (s : ℕ) → s ≤ 4096 → OnLeg (pos s) (pos 1)
step_on_leg s h = record { parts = omega (arith, ints); from = omega (arith, ints); to = omega (arith, ints) }

-- an end is within the reach of the value, and the value within the reach of 0
end_within : (v x s R : ℤ) → Within v (R *ℤ pos 1) → Within (x -ℤ v) s → s ≤ℤ R → R ≤ℤ reach_bound → Within x (pos end_limit)
end_within v x s R w d h k =
    let a = under w in let b = over w in let e = under d in let f = over d in
    within_from x (pos end_limit) (omega (arith, ints)) (omega (arith, ints))

below_limit : (a R : ℤ) → pos 0 ≤ℤ a → (pos 2048 *ℤ a) ≤ℤ R → R ≤ℤ reach_bound → a ≤ℤ reach_bound
below_limit a R h k l = omega (arith, ints)

lies_in_limit : (v R : ℤ) → Within v (R *ℤ pos 1) → R ≤ℤ reach_bound → Within v reach_bound
lies_in_limit v R w k = let a = under w in let b = over w in within_from v reach_bound (omega (arith, ints)) (omega (arith, ints))

module _ (field : Meaning) (laws : Laws field) (leg : Leg) where
  pub steepness_in_limit : field.steepness leg ≤ℤ reach_bound
  steepness_in_limit = below_limit (field.steepness leg) field.reach (laws.steepness≥0 leg) (laws.steepness_in_reach leg) laws.reach_in_limit

  -- a value at a half-step, as it was answered and passed on
  pub value_within : (s : ℕ) → s ≤ 4096 → {x : ℤ} → mag x < 9223372036854775808 → x ≡ field.value leg (pos s) (pos 1) → Within (stored x) reach_bound
  value_within s h ok e =
      subst (λ (v : ℤ). Within v reach_bound) (sym (kept ok ∙ e)) (lies_in_limit (field.value leg (pos s) (pos 1)) field.reach (laws.in_reach leg (pos s) (pos 1) (step_on_leg s h)) laws.reach_in_limit)

  module _ (m r : ℕ) (piece : IsPiece m r) where
    width_in_reach : (field.steepness leg *ℤ pos r) ≤ℤ field.reach
    width_in_reach =
        ≤ℤ_trans (times≤ (laws.steepness≥0 leg) narrow) (subst (λ (x : ℤ). x ≤ℤ field.reach) (*ℤ_comm (pos 2048) (field.steepness leg)) (laws.steepness_in_reach leg))
      where
        narrow : pos r ≤ℤ pos 2048
        narrow = let h = width_limit r piece.1 in omega (arith, ints)

    middle_within : Within (field.value leg (pos m) (pos 1)) (field.reach *ℤ pos 1)
    middle_within = laws.in_reach leg (pos m) (pos 1) (step_on_leg m (omega (arith, piece.3)))

    -- the ends of a bound
    pub ends_within : EndsWithin end_limit (field.bound leg m r)
    ends_within = record {
      spread = spread m r piece (field.bound leg m r) (field.value leg (pos m) (pos 1)) (laws.holds leg m r piece (pos m) (pos 1) (at_middle m r piece));
      low = end_within (field.value leg (pos m) (pos 1)) _ _ field.reach middle_within (laws.low_near leg m r piece) width_in_reach laws.reach_in_limit;
      high = end_within (field.value leg (pos m) (pos 1)) _ _ field.reach middle_within (laws.high_near leg m r piece) width_in_reach laws.reach_in_limit;
    }

    -- ---- the form that was answered, and what the operations on it ask

    module _ {u : Form} (e : u ≡ field.bound leg m r) where
      pub answer_within : EndsWithin end_limit u
      answer_within = subst (λ (w : Form). EndsWithin end_limit w) (sym e) ends_within

      pub bound_low_fits : LowFits u
      bound_low_fits = (ends_fit end_limit u answer_within tt).low

      pub bound_opposite_fits : OppositeFits u
      bound_opposite_fits = opposite_fits (ends_bounded end_limit u answer_within) tt

-- the forms that two fields answered can be compared
module _ (f g : Meaning) (F : Laws f) (G : Laws g) (leg : Leg) (m r : ℕ) (piece : IsPiece m r) {u v : Form} (a : u ≡ f.bound leg m r) (b : v ≡ g.bound leg m r) where
  pub bounds_lesser_fit : LesserFits u v
  bounds_lesser_fit = lesser_fits end_limit u v (answer_within f F leg m r piece a) (answer_within g G leg m r piece b) tt tt
