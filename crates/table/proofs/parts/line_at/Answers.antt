use Rattle.std.proofs.Common.{take, sym, ◌∙◌, arith}
use Rattle.std.proofs.lemmas.List.{length-take-le}
use Rattle.std.proofs.lemmas.Iterator.Consumers.{YieldsList-from_first, count_from_yields_List}
use Rattle.table.specs.declared.parts.Fields.{Fields}
use Rattle.table.specs.Text.{fields, fields_in}
use Rattle.table.proofs.FirstLines.{no_feed, too_long, wrong_count, right_count, first_is, first_part, within}
use Rattle.table.proofs.parts.line_at.Goals as goal
use Rattle.table.proofs.parts.line_at.Goals.{in_default-via-in-Some+else-n-le-LONGEST, in_default-via-in_default}

pub returns-in_default-clause-value : goal.returns-in_default-clause-value
returns-in_default-clause-value c =
    let columns = c.args.columns in
    let number = c.args.number in
    let text = c.args.text.now in
    rw c.new.ensures (
    elim c.in_default.branch [
      | in_default-via-in-Some+else-n-le-LONGEST w ↦ too_long columns number text w.in-Some.n (sym c.find.ensures ∙ w.in-Some.is) w.if-n-le-LONGEST.false
      | in_default-via-in_default w ↦ no_feed columns number text (sym c.find.ensures ∙ w.in_default.is)
    ])

pub returns-then-count-columns-clause-value : goal.returns-then-count-columns-clause-value
returns-then-count-columns-clause-value c =
    let n = c.in-Some.n in
    let text = c.args.text.now in
    let all = count_from_yields_List c.of.result c.count.result c.count.ensures.ran (YieldsList-from_first (λ x. x.now) (λ (s : Fields). fields_in s.rest) (fields (take n text)) c.of.ensures.all) in
    rw c.new-then-count-columns.ensures (wrong_count c.args.columns c.args.number text n (sym c.find.ensures ∙ c.in-Some.is) c.if-n-le-LONGEST.true (λ e. c.if-count-columns.true (all ∙ e)))

pub returns : goal.returns
returns c =
    let columns = c.args.columns in
    let number = c.args.number in
    let n = c.in-Some.n in
    let text = c.args.text.now in
    let at = sym c.find.ensures ∙ c.in-Some.is in
    let all = count_from_yields_List c.of.result c.count.result c.count.ensures.ran (YieldsList-from_first (λ x. x.now) (λ (s : Fields). fields_in s.rest) (fields (take n text)) c.of.ensures.all) in
    let fits = sym all ∙ c.if-count-columns.false in
    let w = within columns number text n at in
    let l = length-take-le n text (omega arith) in
    record {
      value = right_count columns number text n at c.if-n-le-LONGEST.true fits;
      part = (first_is columns number text n at, omega arith, fits, first_part columns number text n at);
    }
