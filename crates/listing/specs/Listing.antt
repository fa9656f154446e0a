-- What the program prints: from the bytes of four files to the listing or the fault.
use Rattle.std.specs.Prelude.{◌≡◌, ℕ, List, ◌++◌, ℤ, Some, None, Ok, Err, codes, Option, Result}
use Rattle.refusal.specs.declared.Fault.{Fault}
use Rattle.table.specs.declared.table.Table.TheVariants.{Nodes, Areas, Legs}
use Rattle.table.specs.Reading.{Reading, reading}
use Rattle.table.specs.Rearranged.{Rearranged}
use Rattle.files.specs.declared.file.File.TheVariants as files
use Rattle.files.specs.declared.file.FileFault.{FileFault}
use Rattle.files.specs.Rows.{names_of}
use Rattle.files.specs.Outputs.{Output, ended_by, fault_alone}
use Rattle.sheet.specs.Calls.{SheetData, built}
use Rattle.sheet.specs.Kept.{Joint}
use Rattle.loading.specs.Loading.{loaded_of, calls_of}
use Rattle.listing.specs.Ground.{ground_from}
use Rattle.listing.specs.Rows.{rows_text, KeptRow}

-- ---- legs

abbrev pub heading : List ℕ
heading = codes "leg answer piece bounds x y z\n"

-- a fault of the legs file
abbrev pub in_legs : Fault → FileFault
in_legs f = record { file = files.Legs; fault = f }

-- a text, and behind it the fault of the legs file, if there is one
abbrev pub up_to : List ℕ → Option Fault → Output
up_to text None = record { text = text; fault = None }
up_to text (Some f) = ended_by text (in_legs f)

abbrev pub legs_listed : Joint → SheetData → Reading → Output
legs_listed joint sheet legs = up_to (heading ++ rows_text joint sheet 0 legs.rows) legs.stop

-- the heading comes when the names are accepted
abbrev pub legs_by : Joint → SheetData → Result (List (List ℕ)) Fault → Reading → Output
legs_by joint sheet (Ok heads) legs = legs_listed joint sheet legs
legs_by joint sheet (Err f) legs = fault_alone (in_legs f)

-- ---- the whole

abbrev pub over_ground : SheetData → Result Joint Fault → List ℕ → Output
over_ground sheet (Ok joint) legs = legs_by joint sheet (names_of Legs legs) (reading Legs legs)
over_ground sheet (Err f) legs = fault_alone (record { file = files.Terrain; fault = f })

abbrev pub on_sheet : Result SheetData FileFault → Result Joint Fault → List ℕ → Output
on_sheet (Ok sheet) heights legs = over_ground sheet heights legs
on_sheet (Err f) heights legs = fault_alone f

abbrev pub listing_of : (nodes areas terrain legs : List ℕ) → Output
listing_of nodes areas terrain legs = on_sheet (loaded_of nodes areas) (ground_from terrain) legs

-- every row that is listed keeps the promise of the check, for the sheet that the rows of the first two files build as calls
abbrev pub RowsKept : (nodes areas terrain : List ℕ) → Type 0
RowsKept nodes areas terrain = (sheet : SheetData) (joint : Joint) → loaded_of nodes areas ≡ Ok sheet → ground_from terrain ≡ Ok joint →
    (sheet ≡ built (calls_of nodes areas)) × ((row : List ℤ) → KeptRow joint sheet row)

-- files whose tables have the same rows in another order of columns have the same listing
abbrev pub SameListing : (nodes areas terrain legs : List ℕ) → Type 0
SameListing nodes areas terrain legs = (places₁ places₂ places₃ nodes' areas' legs' : List ℕ) →
    Rearranged Nodes places₁ nodes nodes' → Rearranged Areas places₂ areas areas' → Rearranged Legs places₃ legs legs' →
    listing_of nodes areas terrain legs ≡ listing_of nodes' areas' terrain legs'
