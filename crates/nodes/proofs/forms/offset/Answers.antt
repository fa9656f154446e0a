use Rattle.std.proofs.Common.{ℤ, sym, ap, ◌∙◌, subst}
use Rattle.integer.proofs.Machine.{is, is_stored, is_product}
use Rattle.affine.specs.Forms.{shifted_by}
use Rattle.affine.specs.Fits.{Bounded}
use Rattle.nodes.proofs.Bounds.{bounded_shifted, is_down}
use Rattle.nodes.proofs.forms.offset.Goals as goal

pub returns : goal.returns
returns c =
    let k = is_stored (is_product is_down (is_stored (is c.requires.1) tt)) tt in
    let e = c.shifted.ensures.value ∙ ap (λ (z : ℤ). shifted_by z c.args.x) k.same in
    record { value = e; bounded = subst (Bounded 33554432) (sym e) (bounded_shifted k.small c.requires.0) }
