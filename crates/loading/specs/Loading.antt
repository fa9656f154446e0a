-- The sheet that two tables of text load: each row is a call, made before the next line is looked at.
use Rattle.std.specs.Prelude.{ℕ, ◌+◌, cond, List, [], ◌∷◌, ◌++◌, map, ℤ, pos, Some, None, Ok, Err, Option, Result, ◌==◌, slice_index_or}
use Rattle.refusal.specs.declared.Fault.{Fault}
use Rattle.refusal.specs.Numbers.{refusal_of, fault}
use Rattle.table.specs.declared.table.Table.TheVariants.{Nodes, Areas}
use Rattle.table.specs.Reading.{Reading, reading}
use Rattle.files.specs.declared.file.File.{File}
use Rattle.files.specs.declared.file.File.TheVariants as files
use Rattle.files.specs.declared.file.FileFault.{FileFault}
use Rattle.nodes.specs.declared.node.Node.{Node}
use Rattle.sheet.specs.declared.call.Call.{Call}
use Rattle.sheet.specs.declared.call.Call.TheVariants.{Add, Publish}
use Rattle.sheet.specs.Calls.{SheetData, empty_sheet, call_refusal, after}

-- ---- rows as calls

abbrev pub column : List ℤ → ℕ → ℤ
column row k = slice_index_or row k (pos 0)

abbrev pub node_of : List ℤ → Node
node_of row = record {
  kind = column row 0;
  a = column row 1;
  b = column row 2;
  px = column row 3;
  py = column row 4;
  pz = column row 5;
  sx = column row 6;
  sy = column row 7;
  sz = column row 8;
  lx = column row 9;
  ly = column row 10;
  lz = column row 11;
  k = column row 12;
}

-- a row of the nodes table
abbrev pub add_of : List ℤ → Call
add_of row = Add (node_of row)

-- a row of the areas table
abbrev pub publish_of : List ℤ → Call
publish_of row = Publish (column row 0) (column row 1) (column row 2)

-- ---- a table

-- the sheet after these rows, the first of which is line n, or the first fault: that of a row that the sheet refuses, with its line and column 0, or the one that
-- ended the reading
abbrev pub rows_loaded : (List ℤ → Call) → SheetData → ℕ → List (List ℤ) → Option Fault → Result SheetData Fault
rows_loaded call sheet n [] None = Ok sheet
rows_loaded call sheet n [] (Some f) = Err f
rows_loaded call sheet n (row ∷ rows) stop =
    cond (call_refusal sheet (call row) == 0) (rows_loaded call (after sheet (call row)) (n + 1) rows stop) (Err (fault (refusal_of (call_refusal sheet (call row))) n 0))

-- the rows of a text begin with line 2
abbrev pub load_reading : (List ℤ → Call) → SheetData → Reading → Result SheetData Fault
load_reading call sheet r = rows_loaded call sheet 2 r.rows r.stop

-- ---- both tables

-- a fault, and its file
abbrev pub placed_in_file : File → Result SheetData Fault → Result SheetData FileFault
placed_in_file file (Ok sheet) = Ok sheet
placed_in_file file (Err f) = Err (record { file = file; fault = f })

abbrev pub and_then : Result SheetData FileFault → (SheetData → Result SheetData FileFault) → Result SheetData FileFault
and_then (Ok sheet) next = next sheet
and_then (Err f) next = Err f

-- the nodes are added to an empty sheet, and then the areas are published
abbrev pub load_both : Reading → Reading → Result SheetData FileFault
load_both nodes areas = and_then (placed_in_file files.Nodes (load_reading add_of empty_sheet nodes)) (λ sheet. placed_in_file files.Areas (load_reading publish_of sheet areas))

abbrev pub loaded_of : (nodes areas : List ℕ) → Result SheetData FileFault
loaded_of nodes areas = load_both (reading Nodes nodes) (reading Areas areas)

-- the rows of both tables as one list of calls
abbrev pub calls_of : (nodes areas : List ℕ) → List Call
calls_of nodes areas = map add_of (reading Nodes nodes).rows ++ map publish_of (reading Areas areas).rows
