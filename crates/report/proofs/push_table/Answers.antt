use Rattle.std.proofs.Common.{ℕ, List, ◌++◌, vec_items, sym, ap, ◌∙◌, append_assoc}
use Rattle.std.specs.List.{flat_map}
use Rattle.std.proofs.lemmas.Result.{IfOk-equal}
use Rattle.table.specs.declared.table.Table.{Table}
use Rattle.table.specs.Text.{first_line}
use Rattle.table.specs.Reading.{Reading}
use Rattle.table.specs.Left.{left_of}
use Rattle.report.specs.Report.{row_line, heading}
use Rattle.report.proofs.push_table.Goals as goal

pub returns-clause-text : goal.returns-clause-text
returns-clause-text c =
    let table = c.args.table in
    let out = vec_items c.args.out.now in
    let opened = c.in_ok-rows.ensures in
    let rest = left_of c.in_ok-rows.rows.rows in
    let lines = flat_map (row_line table) rest.rows in
    let top = heading table (first_line c.args.text.now) in
    IfOk-equal _ _ _ _ c.push_rows.ensures.text
    (ap (λ (t : Table). vec_items c.push_heading.new.out ++ flat_map (row_line t) rest.rows) opened.table
    ∙ ap (λ (t : List ℕ). t ++ lines) (c.in_ok-push_heading.ensures ∙ ap (λ (l : List ℕ). out ++ heading table l) opened.rows.0)
    ∙ append_assoc out top lines
    ∙ ap (λ (r : Reading). out ++ (top ++ flat_map (row_line table) r.rows)) (sym opened.rows.2))
