use Rattle.std.proofs.Common.{◌≡◌, ap, ◌∙◌, sym, subst, rules}
use Rattle.table.specs.Text.{feeds}
use Rattle.table.specs.Reading.{reading, row_of, Complete}
use Rattle.table.proofs.Alike.{alike}
use Rattle.table.proofs.Counts.{all_rows}
use Rattle.table.proofs.reader.row.Goals as goal

pub returns-clause-complete : goal.returns-clause-complete
returns-clause-complete c =
    let value : c.nth.result ≡ row_of c.args.k (reading c.args.table c.args.text.now) = search rules in
    λ e. subst (Complete (feeds c.args.text.now) c.args.k) (sym value) (all_rows c.args.table c.args.text.now c.args.k e)

pub returns-clause-same : goal.returns-clause-same
returns-clause-same c =
    let value : c.nth.result ≡ row_of c.args.k (reading c.args.table c.args.text.now) = search rules in
    λ places other r. value ∙ ap (row_of c.args.k) (alike c.args.table places c.args.text.now other r)
