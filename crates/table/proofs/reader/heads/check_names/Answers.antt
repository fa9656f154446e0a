use Rattle.std.proofs.Common.{Some, None, sym, ap, ◌∙◌}
use Rattle.refusal.specs.declared.Refusal.TheVariants.{ColumnName}
use Rattle.table.specs.Text.{fields}
use Rattle.table.specs.Names.{held}
use Rattle.table.specs.Reading.{unless, good_name}
use Rattle.table.proofs.NextRows.{bad_is}
use Rattle.table.proofs.reader.heads.check_names.Goals as goal

pub returns-in-Some : goal.returns-in-Some
returns-in-Some c =
    let fs = fields c.args.line.now in
    rw c.new.ensures (ap (unless ColumnName 1 fs) (bad_is (good_name (held c.args.names.now) fs) fs (Some c.in-Some.place) (sym c.bad_name.ensures.value ∙ c.in-Some.is)))

pub returns-in-None : goal.returns-in-None
returns-in-None c =
    let fs = fields c.args.line.now in
    ap (unless ColumnName 1 fs) (bad_is (good_name (held c.args.names.now) fs) fs None (sym c.bad_name.ensures.value ∙ c.in-None.is))
