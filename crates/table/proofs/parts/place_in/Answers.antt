use Rattle.std.proofs.Common.{rules}
use borrow.Author.Tests.{tests}
use Rattle.std.specs.Str.{bytes_eq}
use Rattle.std.proofs.lemmas.Iterator.Consumers.{YieldsList-from_first}
use Rattle.std.proofs.lemmas.Iterator.Search.{position_from_yields_List}
use Rattle.table.specs.declared.parts.Fields.{Fields}
use Rattle.table.specs.Text.{fields, fields_in}
use Rattle.table.proofs.parts.place_in.Goals as goal

pub returns : goal.returns
returns c =
    position_from_yields_List (λ f. bytes_eq f c.args.field.now) c.position.new.self _ c.position.result c.position.ensures.ran
    (YieldsList-from_first (λ x. x.now) (λ (s : Fields). fields_in s.rest) (fields c.args.line.now) c.of.ensures.all) (λ x b q k. search (rules, tests))
