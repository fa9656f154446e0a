use Rattle.std.proofs.Common.{ℕ, not, List, rules}
use borrow.Author.Tests.{tests}
use Rattle.std.proofs.lemmas.Iterator.Search.{position_from_yields_List}
use Rattle.table.specs.Text.{fields}
use Rattle.table.specs.Names.{held}
use Rattle.table.specs.Reading.{good_name}
use Rattle.table.proofs.Values.{numbered}
use Rattle.table.proofs.reader.heads.bad_name.Goals as goal

pub returns-clause-value : goal.returns-clause-value
returns-clause-value c =
    let fs = fields c.args.line.now in
    position_from_yields_List (λ (p : ℕ × List ℕ). not (good_name (held c.args.names.now) fs p.0 p.1)) c.position.new.self _ c.position.result c.position.ensures.ran
    (numbered c.enumerate.result c.of.result fs c.enumerate.ensures.source c.enumerate.ensures.count c.of.ensures.all) (λ x b q k. search (rules, tests))
