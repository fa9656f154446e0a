use Rattle.listing.proofs.WorkedCases.{worked_cases}
use Rattle.listing.proofs.worked.worked_halves.Goals as goal

pub returns-clause-worked : goal.returns-clause-worked
returns-clause-worked c = worked_cases
