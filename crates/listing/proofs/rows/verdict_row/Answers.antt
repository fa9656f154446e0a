use Rattle.std.proofs.Common.{rules}
use Rattle.listing.proofs.rows.verdict_row.Goals.{in-Clear, in-Inside, in-Entered, in-Near}
use Rattle.listing.proofs.rows.verdict_row.Goals as goal

pub returns : goal.returns
returns c = elim c.match-verdict.branch [ in-Clear w ↦ search rules | in-Inside w ↦ search rules | in-Entered w ↦ search rules | in-Near w ↦ search rules ]
