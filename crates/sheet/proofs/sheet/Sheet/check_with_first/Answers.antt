use Rattle.std.proofs.Common.{ap, ◌∙◌}
use Rattle.field.specs.Meaning.{Meaning}
use Rattle.field.specs.Layers.{union_of}
use Rattle.sheet.specs.Held.{data_of}
use Rattle.sheet.specs.Kept.{first, limited_answer}
use Rattle.sheet.proofs.Keeping.{kept_of, standing_of}
use Rattle.sheet.proofs.Reaching.{live_of}
use Rattle.sheet.proofs.sheet.Sheet.check_with_first.Goals as goal

pub returns : goal.returns
returns g c =
    let sheet = c.args.self.now in
    let field = g.F.Field.meaning c.args.field.now in
    live_of (first field) (data_of sheet) (standing_of sheet) c.args.start c.args.end _ (
    kept_of (first field) (data_of sheet) (standing_of sheet) (g.F.Field.laws c.args.field.now c.requires) c.args.start c.args.end _
    (c.check_union.ensures ∙ ap (λ (m : Meaning). limited_answer (union_of field m) c.args.start c.args.end) c.view.ensures))
