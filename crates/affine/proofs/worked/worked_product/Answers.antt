use Rattle.std.proofs.Common.{refl}
use Rattle.affine.specs.Forms.{product_of, lesser_of, greater_of}
use Rattle.affine.proofs.worked.worked_product.Goals as goal

pub returns : goal.returns
unfolding product_of lesser_of greater_of
returns c = record { value = c.product.ensures.value; worked = (refl, refl, refl, refl, refl) }
