-- The files by name and number, and what is written of a fault.
use Rattle.std.specs.Prelude.{ℕ, List, [], ◌∷◌, ◌++◌, map, codes, decimal}
use Rattle.refusal.specs.declared.Fault.{Fault}
use Rattle.refusal.specs.Numbers as refused
use Rattle.table.specs.declared.table.Table.{Table}
use Rattle.table.specs.declared.table.Table.TheVariants as tables
use Rattle.files.specs.declared.file.File.{File}
use Rattle.files.specs.declared.file.File.TheVariants.{Nodes, Areas, Terrain, Legs}
use Rattle.files.specs.Lines.{spaced}

abbrev pub number_of : File → ℕ
number_of Nodes = 1
number_of Areas = 2
number_of Terrain = 3
number_of Legs = 4

abbrev pub name_of : File → List ℕ
name_of Nodes = codes "nodes.txt"
name_of Areas = codes "areas.txt"
name_of Terrain = codes "terrain.bin"
name_of Legs = codes "legs.txt"

-- the file that holds a table
abbrev pub file_of : Table → File
file_of tables.Nodes = Nodes
file_of tables.Areas = Areas
file_of tables.Legs = Legs

-- the fault of a file, by the file's number
abbrev pub fault_text : File → Fault → List ℕ
fault_text file f = codes "file number layer line column\n" ++ spaced (map decimal (number_of file ∷ refused.number_of f.refusal ∷ refused.layer_of (refused.number_of f.refusal) ∷ f.line ∷ f.column ∷ []))
