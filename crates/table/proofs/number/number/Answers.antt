use Rattle.std.proofs.Common.{rules, arith}
use Rattle.std.proofs.lemmas.Grind.{common_steps}
use Rattle.table.proofs.Writings.{says}
use Rattle.table.proofs.number.number.Goals as goal

pub returns-in-45-clause-says : goal.returns-in-45-clause-says
returns-in-45-clause-says c = says c.args.field.now c.map.result (grind (arith, common_steps))

pub returns-in_default-clause-says : goal.returns-in_default-clause-says
returns-in_default-clause-says c = says c.args.field.now c.map-in_default.result (search rules)
