use Rattle.std.proofs.Common.{sym, ◌∙◌, ap₂, subst₂}
use Rattle.std.specs.Int.{int_max}
use Rattle.affine.specs.Forms.{span_of}
use Rattle.affine.specs.Fits.{SpanFits}
use Rattle.affine.proofs.Choosing.{greater_first, greater_second, greater_neither}
use Rattle.affine.proofs.Results.{picked, greater_result}
use Rattle.affine.proofs.Form.greater.Goals as goal

pub span-requires : goal.span-requires
span-requires c =
    let lo = picked int_max c.max.type_inv c.max.ensures.value c.low.ensures.value c.requires.left.low.end c.low-else-ends_before-2.ensures.value c.requires.right.low.end in
    let hi = picked int_max c.max-else-ends_before-2.type_inv c.max-else-ends_before-2.ensures.value c.high.ensures.value c.requires.left.high.end c.high-else-ends_before-2.ensures.value c.requires.right.high.end in
    subst₂ SpanFits (sym lo) (sym hi) c.requires.span

pub returns-then-ends_before : goal.returns-then-ends_before
returns-then-ends_before c = greater_result c.args.self c.args.v (greater_first c.args.self c.args.v (sym c.ends_before.ensures ∙ c.if-ends_before.true))

pub returns-then-ends_before-2 : goal.returns-then-ends_before-2
returns-then-ends_before-2 c =
    greater_result c.args.self c.args.v (greater_second c.args.self c.args.v (sym c.ends_before.ensures ∙ c.if-ends_before.false)
    (sym c.ends_before-else-ends_before.ensures ∙ c.if-ends_before-2.true))

pub returns-else-ends_before-2 : goal.returns-else-ends_before-2
returns-else-ends_before-2 c =
    let lo = picked int_max c.max.type_inv c.max.ensures.value c.low.ensures.value c.requires.left.low.end c.low-else-ends_before-2.ensures.value c.requires.right.low.end in
    let hi = picked int_max c.max-else-ends_before-2.type_inv c.max-else-ends_before-2.ensures.value c.high.ensures.value c.requires.left.high.end c.high-else-ends_before-2.ensures.value c.requires.right.high.end in
    greater_result c.args.self c.args.v (c.span.ensures ∙ ap₂ span_of lo hi
    ∙ greater_neither c.args.self c.args.v (sym c.ends_before.ensures ∙ c.if-ends_before.false) (sym c.ends_before-else-ends_before.ensures ∙ c.if-ends_before-2.false))
