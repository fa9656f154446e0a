-- The sheet of the code as plain data.
use Rattle.std.specs.Prelude.{vec_items}
use Rattle.sheet.specs.declared.sheet.Sheet.{Sheet}
use Rattle.sheet.specs.Calls.{SheetData}

abbrev pub data_of : Sheet → SheetData
data_of sheet = record { nodes = vec_items sheet.nodes; slots = sheet.areas.slots }
