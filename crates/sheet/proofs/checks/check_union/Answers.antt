use Rattle.std.proofs.Common.{◌≡◌, ap, ◌∙◌, ap₂}
use Rattle.std.proofs.lemmas.Result.{err_from_is_err_and}
use Rattle.field.specs.Meaning.{Meaning}
use Rattle.field.specs.Layers.{union_of}
use Rattle.leg_check.specs.Outcome.{outcome_of}
use Rattle.sheet.specs.Answers.{refused, outcome}
use Rattle.sheet.proofs.Keeping.{found_is, near_answer, far_answer}
use Rattle.sheet.proofs.checks.check_union.Goals as goal

pub returns-in_err-fits : goal.returns-in_err-fits
returns-in_err-fits g c =
    let p = err_from_is_err_and c.from_residual.result c.from_residual.ensures.1 in
    let over = c.in_err-fits.ensures in
    rw (p.1, p.2)
    (ap refused over.0
    ∙ far_answer (union_of (g.A.Field.meaning c.args.first) (g.B.Field.meaning c.args.second)) c.args.start c.args.end over.1)

pub returns : goal.returns
returns g c =
    let same : union_of (g.A.Field.meaning c.new.result.first) (g.B.Field.meaning c.new.result.second) ≡ union_of (g.A.Field.meaning c.args.first) (g.B.Field.meaning c.args.second) =
    ap₂ (λ x y. union_of (g.A.Field.meaning x) (g.B.Field.meaning y)) c.new.ensures.0 c.new.ensures.1 in
    found_is _ c.args.start c.args.end c.check.result c.check.ensures
    ∙ ap (λ (m : Meaning). outcome (outcome_of c.args.start c.args.end m)) same
    ∙ near_answer (union_of (g.A.Field.meaning c.args.first) (g.B.Field.meaning c.args.second)) c.args.start c.args.end c.in_ok-fits.ensures
