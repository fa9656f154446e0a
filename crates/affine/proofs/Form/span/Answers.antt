use Rattle.std.proofs.Common.{◌≡◌, ℤ, pos, ◌+ℤ◌, ◌-ℤ◌, refl, ap, ◌∙◌, ap₂, w64, SFits}
use Rattle.integer.specs.Numbers.{ceiling_by, RoundedUp}
use Rattle.integer.proofs.Division.{ceiling_only}
use Rattle.integer.proofs.Machine.{stored, stored_is, fits_is, kept}
use Rattle.affine.specs.Forms.{centre}
use Rattle.affine.proofs.Ends.{same_form}
use Rattle.affine.proofs.Form.span.Goals as goal

-- the centre, as the call answers it
answered : (lo hi c : ℤ) → SFits w64 lo → SFits w64 hi → SFits w64 (lo +ℤ hi) → stored c ≡ c → RoundedUp (stored (stored lo +ℤ stored hi)) (pos 2) c → stored c ≡ centre lo hi
answered lo hi c f g h k r =
    k ∙ ceiling_only (stored (stored lo +ℤ stored hi)) (pos 2) c (record { le = tt }) r
    ∙ ap (λ (x : ℤ). ceiling_by x (pos 2)) (stored_is (ap₂ ◌+ℤ◌ (stored_is refl f) (stored_is refl g)) h)

pub overflow_sub-result : goal.overflow_sub-result
overflow_sub-result c =
    let middle = answered c.args.lo c.args.hi c.half_up-centre.result c.ranges.lo c.ranges.hi c.requires.sum (kept c.half_up-centre.type_inv) c.half_up-centre.ensures in
    fits_is (ap₂ ◌-ℤ◌ middle (stored_is refl c.ranges.lo)) c.requires.width

pub returns : goal.returns
returns c =
    let middle = answered c.args.lo c.args.hi c.half_up-centre.result c.ranges.lo c.ranges.hi c.requires.sum (kept c.half_up-centre.type_inv) c.half_up-centre.ensures in
    same_form middle refl (stored_is (ap₂ ◌-ℤ◌ middle (stored_is refl c.ranges.lo)) c.requires.width)
