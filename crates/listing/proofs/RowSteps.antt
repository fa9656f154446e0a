-- Rows that are written one after the other: what is written and what is left make the whole.
use Rattle.std.proofs.Common.{◌≡◌, ℕ, ◌+◌, ◌-◌, ◌≤◌, List, ◌∷◌, ◌++◌, ℤ, Some, None, Ok, Err, Option, Result, sym, ap, ◌∙◌, ap₂, arith}
use Rattle.std.proofs.lemmas.List.{append_assoc}
use Rattle.refusal.specs.declared.Fault.{Fault}
use Rattle.table.specs.declared.table.Table.TheVariants.{Legs}
use Rattle.table.specs.Reading.{Reading}
use Rattle.files.specs.declared.file.File.{File}
use Rattle.files.specs.declared.file.FileFault.{FileFault}
use Rattle.files.specs.declared.error.LoadError.{LoadError}
use Rattle.files.specs.declared.error.LoadError.TheVariants as errors
use Rattle.files.specs.Files.{fault_text}
use Rattle.files.specs.Errors.{Stops, WithMemory}
use Rattle.files.specs.Outputs.{ended_by, behind, Makes}
use Rattle.sheet.specs.Calls.{SheetData}
use Rattle.sheet.specs.Kept.{Joint}
use Rattle.listing.specs.Rows.{row_text, rows_text}
use Rattle.listing.specs.Listing.{heading, in_legs, up_to, legs_by}

module _ (joint : Joint) (sheet : SheetData) where
  -- one row more: it stands in line `line + 1`
  pub row_more : (line line' : ℕ) → 1 ≤ line → line' ≡ line + 1 → (out after start : List ℕ) (row : List ℤ) (rows more : List (List ℤ)) → rows ≡ row ∷ more →
      after ≡ out ++ row_text joint sheet (line' - 2) row → out ++ rows_text joint sheet (line - 1) rows ≡ start → after ++ rows_text joint sheet (line' - 1) more ≡ start
  row_more line line' some next out after start row rows more is written sofar =
      let number : line' - 2 ≡ line - 1 = omega arith in
      let following : line' - 1 ≡ line - 1 + 1 = omega arith in
      ap₂ (λ (t : List ℕ) (n : ℕ). t ++ rows_text joint sheet n more) (written ∙ ap (λ (n : ℕ). out ++ row_text joint sheet n row) number) following
      ∙ append_assoc out (row_text joint sheet (line - 1) row) (rows_text joint sheet (line - 1 + 1) more)
      ∙ ap (λ (l : List (List ℤ)). out ++ rows_text joint sheet (line - 1) l) (sym is)
      ∙ sofar

  -- the heading and the rows, up to the fault that ends them, if one does
  pub legs_made : {X : Type 0} (heads : List (List ℕ)) (names : Result (List (List ℕ)) Fault) (legs rest : Reading) (before headed after : List ℕ) (line : ℕ) (result : Result X LoadError) →
      names ≡ Ok heads → legs ≡ rest → headed ≡ before ++ heading → line ≡ 1 → Stops Legs rest.stop result → WithMemory result (after ≡ headed ++ rows_text joint sheet (line - 1) rest.rows) →
      Makes (behind before (legs_by joint sheet names legs)) after result
  legs_made heads names legs rest before headed after line result accepted same top first = by_result result
    where
      text : List ℕ
      text = heading ++ rows_text joint sheet 0 rest.rows

      listed : behind before (legs_by joint sheet names legs) ≡ behind before (up_to text rest.stop)
      listed = ap (behind before) (ap₂ (legs_by joint sheet) accepted same)

      all : after ≡ headed ++ rows_text joint sheet (line - 1) rest.rows → before ++ text ≡ after
      all written =
          let start : line - 1 ≡ 0 = omega arith in
          sym (written ∙ ap₂ (λ (t : List ℕ) (n : ℕ). t ++ rows_text joint sheet n rest.rows) top start ∙ append_assoc before heading (rows_text joint sheet 0 rest.rows))

      by_result : {X : Type 0} (r : Result X LoadError) → Stops Legs rest.stop r → WithMemory r (after ≡ headed ++ rows_text joint sheet (line - 1) rest.rows) → Makes (behind before (legs_by joint sheet names legs)) after r
      by_result (Ok x) stop written =
          listed ∙ ap (λ (o : Option Fault). behind before (up_to text o)) stop ∙ ap (λ (t : List ℕ). record { text = t; fault = None }) (all written)
      by_result (Err (errors.Fault f)) stop written =
          let in_file : in_legs f.fault ≡ f = ap (λ (file : File). record { file = file; fault = f.fault }) (sym stop.1) in
          listed ∙ ap (λ (o : Option Fault). behind before (up_to text o)) stop.0 ∙ ap (λ (g : FileFault). behind before (ended_by text g)) in_file
          ∙ ap (λ (t : List ℕ). record { text = t; fault = Some f }) (sym (append_assoc before text (fault_text f.file f.fault)) ∙ ap (λ (t : List ℕ). t ++ fault_text f.file f.fault) (all written))
      by_result (Err (errors.Alloc e)) stop written = tt
