use Rattle.std.proofs.Common.{◌∙◌, rules, arith, of_calls}
use Rattle.std.specs.Option.{unwrap_or}
use Rattle.std.proofs.lemmas.Iterator.{serves_from_Range, YieldsList-from_range, YieldsList-from_map}
use Rattle.std.proofs.lemmas.Iterator.Consumers.{max_from_yields_List}
use Rattle.terrain.proofs.Greatest.{greatest_is}
use Rattle.terrain.proofs.heights.greatest.Goals as goal

pub max-requires-clause-can : goal.max-requires-clause-can
max-requires-clause-can g c = (tt, serves_from_Range (λ x q h. search rules) (λ x low high. search (rules, c.requires)))

pub returns : goal.returns
returns g c v gives =
    let top = max_from_yields_List {v = λ x. x} c.map.result c.max.result c.max.ensures.ran
    (YieldsList-from_map _ v {f = c.map.result.f} (YieldsList-from_range 0 c.args.count c.args.count (cc) (omega arith)) (cc) (λ x r q k. (search rules, gives x r (search of_calls)))) in
    ◌∙◌ {b = unwrap_or c.max.result 0} c.unwrap_or.ensures (greatest_is v c.args.count c.max.result top)
