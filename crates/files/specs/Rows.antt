-- What a row reader answers, with the file of a fault.
use Rattle.std.specs.Prelude.{◌≡◌, ℕ, ◌+◌, List, [], ◌∷◌, ℤ, Some, None, Ok, Err, Option, Result}
use Rattle.refusal.specs.declared.Fault.{Fault}
use Rattle.table.specs.declared.table.Table.{Table}
use Rattle.table.specs.declared.reader.Rows.{Rows}
use Rattle.table.specs.Names.{column_names}
use Rattle.table.specs.Reading.{and_then, opened_text, heads_of}
use Rattle.table.specs.Left.{left_of}
use Rattle.files.specs.declared.file.FileFault.{FileFault}
use Rattle.files.specs.Files.{file_of}

-- the fields of an accepted names line
abbrev pub names_of : Table → List ℕ → Result (List (List ℕ)) Fault
names_of table text = and_then (opened_text text) (heads_of (column_names table))

-- what is answered is what stands first in what was to be read: a row, or none, or a fault of the table's file
abbrev pub Next : Table → (rows last : Rows) → Result (Option (List ℤ)) FileFault → Type 0
Next table rows last (Ok (Some row)) = (left_of rows ≡ record { rows = row ∷ (left_of last).rows; stop = (left_of last).stop }) × (last.line ≡ rows.line + 1)
Next table rows last (Ok None) = left_of rows ≡ record { rows = []; stop = None }
Next table rows last (Err f) = (left_of rows ≡ record { rows = []; stop = Some f.fault }) × (f.file ≡ file_of table)
