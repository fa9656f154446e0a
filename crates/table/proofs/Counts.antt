-- An accepted text has a row for each line feed but the first.
use Rattle.std.proofs.Common.{◌≡◌, ℕ, zero, suc, ◌+◌, ◌<◌, eqb, List, [], ◌∷◌, length, drop, ℤ, Some, None, Ok, Err, Option, Result, sym, ap, ◌∙◌, subst, arith, length-drop}
use Rattle.refusal.specs.declared.Fault.{Fault}
use Rattle.table.specs.declared.table.Table.{Table}
use Rattle.std.proofs.lemmas.List.Splits.{length-slice_split}
use Rattle.table.specs.Text.{lines, feeds}
use Rattle.table.specs.Names.{column_names}
use Rattle.table.specs.Reading.{Reading, row_under, rows_from, reading, row_among, row_of, Complete}
use Rattle.table.proofs.Alike.{last_part, inner_line, accepted}

-- one line more than line feeds
lines_fed : (text : List ℕ) → length (lines text) ≡ suc (feeds text)
lines_fed text = let l = length-slice_split (λ x. eqb x 10) text in omega arith

-- an accepted line gives a row, and only what stands after the last line feed gives none
each_line : (row : List (List ℕ) → List ℤ) (count n : ℕ) (ls : List (List ℕ)) → 0 < length ls → (rows_from row count n ls).stop ≡ None → suc (length (rows_from row count n ls).rows) ≡ length ls
each_line row count n [] h e = absurd (let z : ⊥ = omega arith in z)
each_line row count n (l ∷ []) h e = ap (λ (r : Reading). suc (length r.rows)) (last_part row count n l e)
each_line row count n (l ∷ m ∷ ls) h e =
    let x = inner_line row count n l m ls e in
    ap (λ (r : Reading). suc (length r.rows)) x.2 ∙ ap suc (each_line row count (n + 1) (m ∷ ls) (omega arith) x.1)

one_on : (fed k : ℕ) (r : Result (Option (List ℤ)) Fault) → Complete fed k r → Complete (suc fed) (suc k) r
one_on fed k (Err f) c = c
one_on fed k (Ok None) c = omega arith
one_on fed k (Ok (Some row)) c = omega arith

found_or_none : (k : ℕ) (rows : List (List ℤ)) → Complete (suc (length rows)) k (row_among k rows None)
found_or_none k [] = omega arith
found_or_none zero (r ∷ rs) = omega arith
found_or_none (suc k) (r ∷ rs) = one_on (suc (length rs)) k (row_among k rs None) (found_or_none k rs)

pub all_rows : (table : Table) (text : List ℕ) (k : ℕ) → (reading table text).stop ≡ None → Complete (feeds text) k (row_of k (reading table text))
all_rows table text k e =
    let a = accepted table text e in
    let ns = column_names table in
    let rest = drop 1 (lines text) in
    let l = lines_fed text in
    let d = length-drop 1 (lines text) in
    let fed = a.1.is.fed in
    let stop : Reading → Option Fault = λ t. t.stop in
    let c = each_line (row_under ns a.0) (length ns) 2 rest (omega arith) (sym (ap stop a.2) ∙ e) in
    let count : suc (length (reading table text).rows) ≡ feeds text = ap (λ (r : Reading). suc (length r.rows)) a.2 ∙ c ∙ (let z : length rest ≡ feeds text = omega arith in z) in
    let rows = (reading table text).rows in
    let At : ℕ → Type 0 = λ m. Complete m k (row_among k rows None) in
    let Stop : Option Fault → Type 0 = λ s. Complete (feeds text) k (row_among k rows s) in
    subst Stop (sym e) (subst At count (found_or_none k rows))
