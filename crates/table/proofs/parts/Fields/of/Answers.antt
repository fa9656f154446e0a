use Rattle.std.proofs.Common.{arith}
use Rattle.table.proofs.Cuts.{few_fields}
use Rattle.table.proofs.parts.Fields.of.Goals as goal

pub returns-clause-few : goal.returns-clause-few
returns-clause-few c = let few = few_fields c.args.line.now in omega arith
