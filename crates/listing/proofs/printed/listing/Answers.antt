use Rattle.listing.proofs.Whole.{rows_kept, same_listing}
use Rattle.listing.proofs.printed.listing.Goals as goal

pub returns-clause-kept : goal.returns-clause-kept
returns-clause-kept c = rows_kept c.args.input.nodes.now c.args.input.areas.now c.args.input.terrain.now

pub returns-clause-same : goal.returns-clause-same
returns-clause-same c = same_listing c.args.input.nodes.now c.args.input.areas.now c.args.input.terrain.now c.args.input.legs.now
