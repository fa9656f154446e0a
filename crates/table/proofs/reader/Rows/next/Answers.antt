use Rattle.std.proofs.Common.{◌≡◌, ℕ, ◌+◌, List, [], map, length, get_or, take, drop, ℤ, pos, Some, Ok, Err, Option, Result, sym, refl, ap, ◌∙◌, subst, arith, Bor, MatchOption}
use Rattle.std.proofs.lemmas.List.{nil_from_length, length-drop}
use Rattle.std.proofs.lemmas.Result.{err_from_is_err_and}
use Rattle.refusal.specs.declared.Fault.{Fault}
use Rattle.table.specs.Text.{fields, lines, first_line}
use Rattle.table.specs.Names.{column_names, unpacked}
use Rattle.table.specs.Reading.{row_by, filled, Stands}
use Rattle.table.specs.Left.{LineOf, next_of}
use Rattle.table.proofs.NextRows.{not_ended, taken, row_refused, row_checked, row_found}
use Rattle.table.proofs.Runs.{goes_on}
use Rattle.table.proofs.reader.Rows.next.Goals as goal

pub returns-in_err-line : goal.returns-in_err-line
returns-in_err-line c =
    let self = c.args.self.now in
    let text = self.text.now in
    let rest = drop self.at text in
    let count = length (column_names self.table) in
    let row = row_by (unpacked self.order.packed) count in
    let is = c.in_err-line.ensures in
    let out = err_from_is_err_and c.from_residual.result c.from_residual.ensures.1 in
    let answer : Fault → Result (Option (List ℤ)) Fault = λ x. Err x in
    let more = not_ended rest (λ e. is.0 (nil_from_length rest e)) in
    let told = out.1 ∙ ap answer out.2 ∙ row_refused row count (self.line + 1) (lines rest) more c.in_err-line.field-0.0 is.1 in
    let At : Result (Option (List ℤ)) Fault → Type 0 = λ r. Stands r (length (first_line rest)) self.at self.line self.at self.line in
    let same = subst At (sym out.1) (refl, refl) in
    record {
      value = told;
      goes = goes_on row count text self.at self.line _ _ _ told same;
      text = refl;
      table = refl;
      order = refl;
      stands = same;
    }

-- what is answered to a line whose fields are numbers
answered : (c : goal.After-arranged) → Ok (Some c.arranged.result) ≡ next_of c.args.self.now
answered c =
    let self = c.args.self.now in
    let text = self.text.now in
    let rest = drop self.at text in
    let count = length (column_names self.table) in
    let places = unpacked self.order.packed in
    let row = row_by places count in
    let line = c.in-Some.line.now in
    let found = c.in_ok-found.found in
    let Stood : Option (Bor (List ℕ)) → Type 0 = λ o. MatchOption o (rest ≡ []) (λ l. LineOf self l.now) in
    let is = subst Stood c.in-Some.is c.in_ok-line.ensures in
    let within = is.1.within in
    let size = length-drop self.at text in
    let more = not_ended rest (λ e. let z : ⊥ = omega arith in z) in
    let v = c.in_ok-found.ensures in
    let answer : List ℤ → Result (Option (List ℤ)) Fault = λ r. Ok (Some r) in
    let by : ℕ → List ℕ → List ℤ = λ n p. filled (map (λ place. get_or found place (pos 0)) (take n p)) in
    ap answer (c.arranged.ensures ∙ ap (λ (n : ℕ). by n c.places-places.result) c.names-columns.ensures.count ∙ ap (by count) c.places-places.ensures ∙ row_found found (fields line) places count v.1)
    ∙ sym (row_checked row count (self.line + 1) (lines rest) more line (Ok (fields line)) is.0 v.0)

pub returns-clause-value : goal.returns-clause-value
returns-clause-value c = answered c

pub returns-clause-goes : goal.returns-clause-goes
returns-clause-goes c =
    let self = c.args.self.now in
    let text = self.text.now in
    let rest = drop self.at text in
    let count = length (column_names self.table) in
    let line = c.in-Some.line.now in
    let Stood : Option (Bor (List ℕ)) → Type 0 = λ o. MatchOption o (rest ≡ []) (λ l. LineOf self l.now) in
    let is = subst Stood c.in-Some.is c.in_ok-line.ensures in
    let first = sym (taken count (self.line + 1) (lines rest) line is.0).first in
    let past : self.at + (length line + 1) ≡ self.at + length (first_line rest) + 1 = let l = ap length first in omega arith in
    goes_on (row_by (unpacked self.order.packed) count) count text self.at self.line _ _ _ (answered c) (past, refl)
