use Rattle.std.proofs.Common.{rules}
use borrow.Author.Tests.{tests}
use Rattle.table.specs.Text.{fields}
use Rattle.table.specs.Names.{held, place_at}
use Rattle.table.proofs.Arrays.{made_by}
use Rattle.table.proofs.reader.heads.places_of.Goals as goal

pub returns : goal.returns
returns c = made_by _ _ (place_at (held c.args.names.now) (fields c.args.line.now)) (λ k y q h. search (rules, tests)) c.from_fn.result 13 0 c.from_fn.ensures.items
