use Rattle.std.proofs.Common.{ap, ◌∙◌}
use Rattle.field.specs.Meaning.{Meaning}
use Rattle.leg_check.specs.Outcome.{outcome_of}
use Rattle.sheet.specs.Held.{data_of}
use Rattle.sheet.specs.Answers.{field_of, outcome}
use Rattle.sheet.specs.Kept.{alone}
use Rattle.sheet.proofs.Keeping.{found_is, kept_of, near_answer, alone_in_limit, standing_of}
use Rattle.sheet.proofs.Reaching.{live_of}
use Rattle.sheet.proofs.sheet.Sheet.check.Goals as goal

pub returns : goal.returns
returns c =
    let sheet = c.args.self.now in
    live_of alone (data_of sheet) (standing_of sheet) c.args.start c.args.end _ (
    kept_of alone (data_of sheet) (standing_of sheet) tt c.args.start c.args.end _
    (found_is _ c.args.start c.args.end c.check.result c.check.ensures
    ∙ ap (λ (m : Meaning). outcome (outcome_of c.args.start c.args.end m)) c.view.ensures
    ∙ near_answer (field_of (data_of sheet)) c.args.start c.args.end (alone_in_limit (data_of sheet) (standing_of sheet))))
