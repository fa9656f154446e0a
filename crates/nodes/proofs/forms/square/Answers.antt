use Rattle.std.proofs.Common.{sym, ◌∙◌, subst}
use Rattle.affine.specs.Fits.{Bounded}
use Rattle.affine.proofs.Fitting.{product_fits}
use Rattle.nodes.specs.Squares.{square_is, bounded_square}
use Rattle.nodes.proofs.forms.square.Goals as goal

pub product-requires : goal.product-requires
product-requires c = product_fits c.requires c.requires tt tt tt

pub returns : goal.returns
returns c =
    let e = c.product.ensures.value ∙ square_is c.args.d in
    record { value = e; bounded = subst (Bounded 6755399441055744) (sym e) (bounded_square c.requires) }
