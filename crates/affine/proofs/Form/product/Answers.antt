use Rattle.std.proofs.Common.{◌≡◌, ℤ, ◌+ℤ◌, ◌*ℤ◌, refl, ap, ◌∙◌, ap₂, w64, SFits, rules}
use Rattle.integer.specs.Numbers.{absℤ}
use Rattle.integer.proofs.Machine.{stored, stored_is, fits_is}
use Rattle.affine.specs.declared.Form.{Form}
use Rattle.affine.specs.Forms.{reach_of, product_of}
use Rattle.affine.specs.Fits.{ProductFits}
use Rattle.affine.proofs.Ends.{same_form}
use Rattle.affine.proofs.Results.{product_result}
use Rattle.affine.proofs.Form.product.Goals as goal

-- the third number, over its parts as the calls answer them
module _ (u v : Form) (fits : ProductFits u v) (u2-fits : SFits w64 u.u2) (v2-fits : SFits w64 v.u2) (a b : ℤ) (a-is : a ≡ absℤ u.u0) (b-is : b ≡ absℤ v.u0) where
  slack : stored (stored a *ℤ stored v.u2) +ℤ stored (stored b *ℤ stored u.u2) ≡ absℤ u.u0 *ℤ v.u2 +ℤ absℤ v.u0 *ℤ u.u2
  slack =
      ap₂ ◌+ℤ◌
      (stored_is (ap₂ ◌*ℤ◌ (stored_is a-is fits.left_size) (stored_is refl v2-fits)) fits.left_slack)
      (stored_is (ap₂ ◌*ℤ◌ (stored_is b-is fits.right_size) (stored_is refl u2-fits)) fits.right_slack)

  third : (x y : ℤ) → x ≡ reach_of u → y ≡ reach_of v → stored (stored (stored a *ℤ stored v.u2) +ℤ stored (stored b *ℤ stored u.u2)) +ℤ stored (stored x *ℤ stored y)
      ≡ absℤ u.u0 *ℤ v.u2 +ℤ absℤ v.u0 *ℤ u.u2 +ℤ reach_of u *ℤ reach_of v
  third x y x-is y-is = ap₂ ◌+ℤ◌ (stored_is slack fits.slack) (stored_is (ap₂ ◌*ℤ◌ (stored_is x-is fits.left.sum) (stored_is y-is fits.right.sum)) fits.cross)

-- the second number
second : (u v : Form) → ProductFits u v → SFits w64 u.u0 → SFits w64 u.u1 → SFits w64 v.u0 → SFits w64 v.u1 →
    stored (stored (stored u.u0 *ℤ stored v.u1) +ℤ stored (stored v.u0 *ℤ stored u.u1)) ≡ u.u0 *ℤ v.u1 +ℤ v.u0 *ℤ u.u1
second u v fits a b c d =
    stored_is
    (ap₂ ◌+ℤ◌
    (stored_is (ap₂ ◌*ℤ◌ (stored_is refl a) (stored_is refl d)) fits.left_slope)
    (stored_is (ap₂ ◌*ℤ◌ (stored_is refl c) (stored_is refl b)) fits.right_slope))
    fits.second

pub overflow_add-slack : goal.overflow_add-slack
overflow_add-slack c =
    let u2-fits : SFits w64 c.args.self.u2 = search rules in
    let v2-fits : SFits w64 c.args.v.u2 = search rules in
    let u0-fits : SFits w64 c.args.self.u0 = search rules in
    let v0-fits : SFits w64 c.args.v.u0 = search rules in
    fits_is
    (slack c.args.self c.args.v c.requires u2-fits v2-fits c.abs.result c.abs-2.result
    (c.abs.ensures.value ∙ ap absℤ (stored_is refl u0-fits)) (c.abs-2.ensures.value ∙ ap absℤ (stored_is refl v0-fits)))
    c.requires.slack

pub overflow_add-result-2 : goal.overflow_add-result-2
overflow_add-result-2 c =
    let u2-fits : SFits w64 c.args.self.u2 = search rules in
    let v2-fits : SFits w64 c.args.v.u2 = search rules in
    let u0-fits : SFits w64 c.args.self.u0 = search rules in
    let v0-fits : SFits w64 c.args.v.u0 = search rules in
    fits_is
    (third c.args.self c.args.v c.requires u2-fits v2-fits c.abs.result c.abs-2.result
    (c.abs.ensures.value ∙ ap absℤ (stored_is refl u0-fits)) (c.abs-2.ensures.value ∙ ap absℤ (stored_is refl v0-fits)) c.reach.result c.reach-2.result c.reach.ensures c.reach-2.ensures)
    c.requires.third

pub returns : goal.returns
unfolding product_of
returns c =
    let u0-fits : SFits w64 c.args.self.u0 = search rules in
    let u1-fits : SFits w64 c.args.self.u1 = search rules in
    let u2-fits : SFits w64 c.args.self.u2 = search rules in
    let v0-fits : SFits w64 c.args.v.u0 = search rules in
    let v1-fits : SFits w64 c.args.v.u1 = search rules in
    let v2-fits : SFits w64 c.args.v.u2 = search rules in
    product_result (same_form
    (stored_is (ap₂ ◌*ℤ◌ (stored_is refl u0-fits) (stored_is refl v0-fits)) c.requires.first)
    (second c.args.self c.args.v c.requires u0-fits u1-fits v0-fits v1-fits)
    (stored_is
    (third c.args.self c.args.v c.requires u2-fits v2-fits c.abs.result c.abs-2.result
    (c.abs.ensures.value ∙ ap absℤ (stored_is refl u0-fits)) (c.abs-2.ensures.value ∙ ap absℤ (stored_is refl v0-fits)) c.reach.result c.reach-2.result c.reach.ensures c.reach-2.ensures)
    c.requires.third))
