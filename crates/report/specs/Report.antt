-- What the program writes: the first fault of the tables, or what was read.
use Rattle.std.specs.Prelude.{ℕ, List, [], ◌∷◌, ◌++◌, map, length, take, ℤ, Some, None, codes, decimal, Option}
use Rattle.std.specs.List.{flat_map}
use Rattle.std.specs.Fmt.{signed_decimal}
use Rattle.refusal.specs.declared.Fault.{Fault}
use Rattle.table.specs.declared.table.Table.{Table}
use Rattle.table.specs.declared.table.Table.TheVariants.{Nodes, Areas, Legs}
use Rattle.table.specs.Text.{first_line}
use Rattle.table.specs.Names.{column_names}
use Rattle.table.specs.Reading.{reading}
use Rattle.files.specs.declared.file.File.TheVariants as files
use Rattle.files.specs.Lines.{spaced}
use Rattle.files.specs.Files.{name_of, file_of}
use Rattle.files.specs.Outputs.{Output, fault_alone}

-- a row's values in the table's own order of columns
abbrev pub row_line : Table → List ℤ → List ℕ
row_line table row = spaced (map signed_decimal (take (length (column_names table)) row))

-- the file's name, the names line as it stands, and the table's own names
abbrev pub heading : Table → List ℕ → List ℕ
heading table line = name_of (file_of table) ++ (codes "\ncolumns as written: " ++ (line ++ ((10 ∷ []) ++ spaced (column_names table))))

abbrev pub table_text : Table → List ℕ → List (List ℤ) → List ℕ
table_text table text rows = heading table (first_line text) ++ flat_map (row_line table) rows

abbrev pub terrain_text : List ℕ → List ℕ
terrain_text bytes = name_of files.Terrain ++ (codes "\n" ++ (decimal (length bytes) ++ codes " bytes\n"))

-- the fault of a table's file, if there is one, in place of what comes next
abbrev pub unless : Table → Option Fault → Output → Output
unless table None next = next
unless table (Some f) next = fault_alone (record { file = file_of table; fault = f })

-- the four files as they were read
abbrev pub text_of : (nodes areas terrain legs : List ℕ) → List ℕ
text_of nodes areas terrain legs =
    table_text Nodes nodes (reading Nodes nodes).rows ++ (table_text Areas areas (reading Areas areas).rows ++ (terrain_text terrain ++ table_text Legs legs (reading Legs legs).rows))

abbrev pub output_of : (nodes areas terrain legs : List ℕ) → Output
output_of nodes areas terrain legs =
    unless Nodes (reading Nodes nodes).stop (unless Areas (reading Areas areas).stop (unless Legs (reading Legs legs).stop (record { text = text_of nodes areas terrain legs; fault = None })))
