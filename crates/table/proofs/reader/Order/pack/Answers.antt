use Rattle.std.proofs.Common.{◌≡◌, fold, length, reverse, arith, rules, ap, ◌∙◌}
use Rattle.table.specs.Names.{unpacked}
use Rattle.table.proofs.Packing.{packed_on, folded, unpacks}
use Rattle.table.proofs.reader.Order.pack.Goals as goal

pub returns : goal.returns
returns c =
    let e : c.fold-packed.result ≡ fold packed_on 0 (reverse c.args.places) = search rules in
    let l : length c.args.places ≡ 13 = search rules in
    record {
      number = e ∙ folded c.args.places (omega arith) c.requires;
      places = ap unpacked e ∙ unpacks c.args.places l c.requires;
    }
