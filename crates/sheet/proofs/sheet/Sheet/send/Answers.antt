use Rattle.std.proofs.Common.{sym, ap, ◌∙◌}
use Rattle.sheet.specs.Held.{data_of}
use Rattle.sheet.specs.Answers.{answer_of}
use Rattle.sheet.specs.Calls.{after}
use Rattle.sheet.proofs.Keeping.{standing_of}
use Rattle.sheet.proofs.Lists.{check_leaves, check_answers}
use Rattle.sheet.proofs.sheet.Sheet.send.Goals as goal

pub returns-in-Check : goal.returns-in-Check
returns-in-Check c =
    let sheet = c.args.self.now in
    let call = sym c.in-Check.is in
    record {
      answer = c.judged.ensures ∙ check_answers (data_of sheet) (standing_of sheet) c.in-Check.start c.in-Check.end _ c.check.ensures.kept ∙ ap (answer_of (data_of sheet)) call;
      after = check_leaves (data_of sheet) c.in-Check.start c.in-Check.end ∙ ap (after (data_of sheet)) call;
    }
