use Rattle.std.proofs.Common.{rules}
use borrow.Author.Tests.{tests}
use Rattle.table.specs.Names.{place_of, unpacked}
use Rattle.table.proofs.Arrays.{made_by}
use Rattle.table.proofs.reader.Order.places.Goals as goal

pub returns : goal.returns
unfolding unpacked
returns c = made_by _ _ (place_of c.args.self.packed) (λ k y q h. search (rules, tests)) c.from_fn.result 13 0 c.from_fn.ensures.items
