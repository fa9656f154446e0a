-- Why the files are not loaded.
use Rattle.std.specs.Prelude.{◌≡◌, Some, None, Ok, Err, Option, Result}
use Rattle.std.specs.declared.alloc.AllocError.{AllocError}
use Rattle.refusal.specs.declared.Fault.{Fault as Said}
use Rattle.table.specs.declared.table.Table.{Table}
use Rattle.files.specs.declared.file.FileFault.{FileFault}
use Rattle.files.specs.declared.error.LoadError.{LoadError}
use Rattle.files.specs.declared.error.LoadError.TheVariants.{Fault, Alloc}
use Rattle.files.specs.Files.{file_of}

-- the fault, unless memory was lacking
abbrev pub outcome_of : LoadError → Result FileFault AllocError
outcome_of (Fault f) = Ok f
outcome_of (Alloc e) = Err e

-- a table is read to its end, or to this fault, which is told with the table's file; want of memory says nothing
abbrev pub Stops : {X : Type 0} → Table → Option Said → Result X LoadError → Type 0
Stops table stop (Ok x) = stop ≡ None
Stops table stop (Err (Fault f)) = (stop ≡ Some f.fault) × (f.file ≡ file_of table)
Stops table stop (Err (Alloc e)) = Unit {0}

-- this holds, unless memory was lacking
abbrev pub WithMemory : {X : Type 0} → Result X LoadError → Type 0 → Type 0
WithMemory (Ok x) P = P
WithMemory (Err (Fault f)) P = P
WithMemory (Err (Alloc e)) P = Unit {0}
