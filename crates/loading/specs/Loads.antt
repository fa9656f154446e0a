-- What the code answers, beside the sheet that two tables load.
use Rattle.std.specs.Prelude.{◌≡◌, ℕ, ◌+◌, List, ℤ, None, Ok, Err, Result}
use Rattle.refusal.specs.declared.Fault.{Fault}
use Rattle.table.specs.declared.table.Table.TheVariants as tables
use Rattle.table.specs.declared.reader.Rows.{Rows}
use Rattle.table.specs.Reading.{reading}
use Rattle.files.specs.declared.file.FileFault.{FileFault}
use Rattle.files.specs.declared.error.LoadError.{LoadError}
use Rattle.files.specs.declared.error.LoadError.TheVariants as errors
use Rattle.table.specs.Left.{left_of}
use Rattle.sheet.specs.declared.call.Call.{Call}
use Rattle.sheet.specs.declared.sheet.Sheet.{Sheet}
use Rattle.sheet.specs.Calls.{SheetData, built}
use Rattle.sheet.specs.Held.{data_of}
use Rattle.loading.specs.Loading.{rows_loaded, loaded_of, calls_of}

-- what is loaded into a sheet from there on
abbrev pub rest_of : (List ℤ → Call) → SheetData → Rows → Result SheetData Fault
rest_of call sheet rows = rows_loaded call sheet (rows.line + 1) (left_of rows).rows (left_of rows).stop

-- an answer and the sheet left are this outcome
abbrev pub Ends : {X : Type 0} → Result X FileFault → SheetData → Result SheetData FileFault → Type 0
Ends (Ok x) sheet outcome = outcome ≡ Ok sheet
Ends (Err f) sheet outcome = outcome ≡ Err f

-- the sheet or the fault is the one that the texts load; want of memory says nothing
abbrev pub Loads : (nodes areas : List ℕ) → Result Sheet LoadError → Type 0
Loads nodes areas (Ok sheet) = loaded_of nodes areas ≡ Ok (data_of sheet)
Loads nodes areas (Err (errors.Fault f)) = loaded_of nodes areas ≡ Err f
Loads nodes areas (Err (errors.Alloc e)) = Unit {0}

-- the sheet is built by the rows of both texts, and neither text has a fault
abbrev pub Built : (nodes areas : List ℕ) → SheetData → Type 0
Built nodes areas sheet =
    (sheet ≡ built (calls_of nodes areas))
    × ((reading tables.Nodes nodes).stop ≡ None)
    × ((reading tables.Areas areas).stop ≡ None)
