use Rattle.std.proofs.Common.{rules, tests}
use Rattle.std.proofs.lemmas.Iterator.{YieldsList-from_slice}
use Rattle.std.proofs.lemmas.Iterator.Search.{any_from_yields_List}
use Rattle.areas.specs.Table.{has}
use Rattle.areas.proofs.area.any_has.Goals as goal

pub returns : goal.returns
returns c = any_from_yields_List (has c.args.node) _ _ _ c.any.ensures.ran (YieldsList-from_slice c.args.slots.now cc) (λ x b q k. search (rules, tests))
