use Rattle.std.proofs.Common.{sym, ◌∙◌}
use Rattle.leg.proofs.Places.{coordinates_within}
use Rattle.leg.proofs.Tests.{apart}
use Rattle.leg.proofs.shapes.Leg.new.Goals as goal

pub invariant_of-result-clause-apart : goal.invariant_of-result-clause-apart
invariant_of-result-clause-apart c = apart c.args.start c.args.end (sym c.is.ensures ∙ c.if-is.false)

pub returns-clause-scaled : goal.returns-clause-scaled
returns-clause-scaled c = λ p q at. coordinates_within _ p q at
