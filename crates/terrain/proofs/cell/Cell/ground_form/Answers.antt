-- Each part follows the code's expression; the bounds are numerals.
use Rattle.std.proofs.Common.{◌≡◌, ℤ, pos, ◌*ℤ◌, ◌∙◌, ap₂}
use Rattle.integer.specs.Numbers.{Within}
use Rattle.integer.proofs.Machine.{Is, stored, within, is, is_numeral, is_stored, is_product}
use Rattle.affine.specs.declared.Form.{Form}
use Rattle.affine.specs.Forms.{sum_of, scaled_by, shifted_by, product_of}
use Rattle.affine.specs.Fits.{Bounded}
use Rattle.affine.proofs.Fitting.{sum_fits, scaled_fits, shifted_fits, product_fits}
use Rattle.terrain.proofs.Sizes.{bounded_by, bounded_wider, bounded_sum, bounded_scaled, bounded_shifted, bounded_product}
use Rattle.terrain.proofs.cell.Cell.ground_form.Goals as goal

-- 2^18 times a difference of two heights
slope-is : {e : ℤ} → Within e (pos 600) → Is (stored (pos 262144 *ℤ stored e)) (pos 262144 *ℤ e) 157286400
slope-is w = is_stored (is_product (is_numeral 262144) (is_stored (is w) tt)) tt

-- that times a form
slope-bounded : {e : ℤ} {f u : Form} → Within e (pos 600) → Bounded 16777216 f → u ≡ scaled_by (stored (pos 262144 *ℤ stored e)) f → Bounded 2638827906662400 u
slope-bounded w b e = bounded_by e (bounded_scaled {k = 157286400} (within (slope-is w) tt) b)

slope-value : {e : ℤ} (f : Form) {u : Form} → Within e (pos 600) → u ≡ scaled_by (stored (pos 262144 *ℤ stored e)) f → u ≡ scaled_by (pos 262144 *ℤ e) f
slope-value f w e = e ∙ (λ t. scaled_by ((slope-is w).same t) f)

-- the product of two forms, and a twist times it
product-bounded : {f g u : Form} → Bounded 16777216 f → Bounded 16777216 g → u ≡ product_of f g → Bounded 1688849860263936 u
product-bounded a b e = bounded_by e (bounded_product a b)

twist-bounded : {e : ℤ} {p u : Form} → Within e (pos 1200) → Bounded 1688849860263936 p → u ≡ scaled_by (stored e) p → Bounded 2026619832316723200 u
twist-bounded w b e = bounded_by e (bounded_scaled {k = 1200} (within (is_stored (is w) tt) tt) b)

base-is : {e : ℤ} → Within e (pos 300) → Is (stored (pos 68719476736 *ℤ stored e)) (pos 68719476736 *ℤ e) 20615843020800
base-is w = is_stored (is_product (is_numeral 68719476736) (is_stored (is w) tt)) tt

pub scaled-east-requires : goal.scaled-east-requires
scaled-east-requires c = scaled_fits {k = 157286400} (within (slope-is c.args.self.east_small) tt) c.requires.0 tt tt

pub scaled-north-requires : goal.scaled-north-requires
scaled-north-requires c = scaled_fits {k = 157286400} (within (slope-is c.args.self.north_small) tt) c.requires.1 tt tt

pub product-requires : goal.product-requires
product-requires c = product_fits c.requires.0 c.requires.1 tt tt tt

pub scaled-twist-requires : goal.scaled-twist-requires
scaled-twist-requires c = scaled_fits {k = 1200} (within (is_stored (is c.args.self.twist_small) tt) tt) (product-bounded c.requires.0 c.requires.1 c.product.ensures.value) tt tt

pub sum-requires : goal.sum-requires
sum-requires c =
    sum_fits (slope-bounded c.args.self.east_small c.requires.0 c.scaled-east.ensures.value) (slope-bounded c.args.self.north_small c.requires.1 c.scaled-north.ensures.value) tt

pub sum-slopes-requires : goal.sum-slopes-requires
sum-slopes-requires c =
    sum_fits
    (bounded_by c.sum.ensures.value (bounded_sum (slope-bounded c.args.self.east_small c.requires.0 c.scaled-east.ensures.value) (slope-bounded c.args.self.north_small c.requires.1 c.scaled-north.ensures.value)))
    (twist-bounded c.args.self.twist_small (product-bounded c.requires.0 c.requires.1 c.product.ensures.value) c.scaled-twist.ensures.value) tt

pub shifted-requires : goal.shifted-requires
shifted-requires c =
    shifted_fits {k = 20615843020800} (within (base-is c.args.self.base_small) tt)
    (bounded_by c.sum-slopes.ensures.value
    (bounded_sum
    (bounded_by c.sum.ensures.value (bounded_sum (slope-bounded c.args.self.east_small c.requires.0 c.scaled-east.ensures.value) (slope-bounded c.args.self.north_small c.requires.1 c.scaled-north.ensures.value)))
    (twist-bounded c.args.self.twist_small (product-bounded c.requires.0 c.requires.1 c.product.ensures.value) c.scaled-twist.ensures.value))) tt

pub returns : goal.returns
returns c =
    let linear = c.sum.ensures.value ∙ ap₂ sum_of (slope-value c.args.x c.args.self.east_small c.scaled-east.ensures.value) (slope-value c.args.y c.args.self.north_small c.scaled-north.ensures.value) in
    let twist = c.scaled-twist.ensures.value ∙ (λ t. scaled_by ((is_stored (is c.args.self.twist_small) tt).same t) (c.product.ensures.value t)) in
    let slopes = c.sum-slopes.ensures.value ∙ ap₂ sum_of linear twist in
    record {
      value = c.shifted.ensures.value ∙ (λ t. shifted_by ((base-is c.args.self.base_small).same t) (slopes t));
      small = bounded_wider
          (bounded_by c.shifted.ensures.value
          (bounded_shifted {k = 20615843020800} (within (base-is c.args.self.base_small) tt)
          (bounded_by c.sum-slopes.ensures.value
          (bounded_sum
          (bounded_by c.sum.ensures.value (bounded_sum (slope-bounded c.args.self.east_small c.requires.0 c.scaled-east.ensures.value) (slope-bounded c.args.self.north_small c.requires.1 c.scaled-north.ensures.value)))
          (twist-bounded c.args.self.twist_small (product-bounded c.requires.0 c.requires.1 c.product.ensures.value) c.scaled-twist.ensures.value))))) tt;
    }
