use Rattle.std.proofs.Common.{ℤ, negsuc, ◌*ℤ◌, ap, ◌∙◌, ap₂}
use Rattle.integer.proofs.Machine.{within, is, is_numeral, is_stored, is_product}
use Rattle.affine.specs.Forms.{sum_of, scaled_by, shifted_by}
use Rattle.affine.proofs.Fitting.{scaled_fits, sum_fits}
use Rattle.nodes.specs.Quadrics.{square_of}
use Rattle.nodes.specs.Locations.{affine_axis}
use Rattle.nodes.proofs.Bounds.{sum_in, scaled_in}
use Rattle.nodes.proofs.forms.axis.Goals as goal

pub scaled-bent-requires : goal.scaled-bent-requires
scaled-bent-requires c = scaled_fits (within {l = 16} (is_stored (is c.requires.1.1.0) tt) tt) c.square.ensures.bounded tt tt

pub scaled-straight-requires : goal.scaled-straight-requires
scaled-straight-requires c =
    scaled_fits (within {l = 16777216} (is_stored (is_product (is_numeral 4096) (is_stored (is c.requires.1.1.1) tt)) tt) tt) c.offset-d.ensures.bounded tt tt

pub sum-requires : goal.sum-requires
sum-requires c =
    sum_fits
    (scaled_in (within {l = 16} (is_stored (is c.requires.1.1.0) tt) tt) c.square.ensures.bounded c.scaled-bent.ensures.value)
    (scaled_in (within {l = 16777216} (is_stored (is_product (is_numeral 4096) (is_stored (is c.requires.1.1.1) tt)) tt) tt) c.offset-d.ensures.bounded c.scaled-straight.ensures.value)
    tt

pub returns : goal.returns
unfolding affine_axis
returns c =
    let s = is_stored (is c.requires.1.1.0) tt in
    let l = is_stored (is_product (is_numeral 4096) (is_stored (is c.requires.1.1.1) tt)) tt in
    let p = is_stored (is c.requires.1.0) tt in
    let d = c.offset-d.ensures.value ∙ ap (λ (z : ℤ). shifted_by (negsuc 4095 *ℤ z) c.args.x) p.same in
    record {
      value = c.sum.ensures.value
          ∙ ap₂ sum_of
          (c.scaled-bent.ensures.value ∙ ap₂ scaled_by s.same (c.square.ensures.value ∙ ap square_of d))
          (c.scaled-straight.ensures.value ∙ ap₂ scaled_by l.same d);
      bounded = sum_in
          (scaled_in (within {l = 16} s tt) c.square.ensures.bounded c.scaled-bent.ensures.value)
          (scaled_in (within {l = 16777216} l tt) c.offset-d.ensures.bounded c.scaled-straight.ensures.value)
          c.sum.ensures.value;
    }
