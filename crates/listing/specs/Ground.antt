-- The terrain that is joined to the sheet, or none.
use Rattle.std.specs.Prelude.{◌≡◌, ℕ, cond, List, length, Some, None, Ok, Err, vec_items, Option, Result, ◌==◌}
use Rattle.refusal.specs.declared.Fault.{Fault}
use Rattle.refusal.specs.Numbers.{refusal_of, fault}
use Rattle.lattice.specs.Meaning.{terrain_of}
use Rattle.terrain.specs.declared.grid.Lattice.{Lattice}
use Rattle.terrain.specs.Rows.{heights_of, file_refusal, file_heights}
use Rattle.sheet.specs.Kept.{Joint, alone, first}
use Rattle.files.specs.declared.file.File.TheVariants as files
use Rattle.files.specs.declared.error.LoadError.{LoadError}
use Rattle.files.specs.declared.error.LoadError.TheVariants as errors

-- an empty file means none; otherwise it joins as the first part of a union, unless 21 or 22 fits, which have no line
abbrev pub ground_from : List ℕ → Result Joint Fault
ground_from bytes =
    cond (length bytes == 0) (Ok alone)
    (cond (file_refusal bytes == 0) (Ok (first (terrain_of (heights_of (file_heights bytes))))) (Err (fault (refusal_of (file_refusal bytes)) 0 0)))

-- what the code joins
abbrev pub joint_of : Option Lattice → Joint
joint_of None = alone
joint_of (Some lattice) = first (terrain_of (heights_of (vec_items lattice.heights.row)))

-- the lattice or the fault is the one that the bytes hold; want of memory says nothing
abbrev pub Grounds : List ℕ → Result (Option Lattice) LoadError → Type 0
Grounds bytes (Ok lattice) = ground_from bytes ≡ Ok (joint_of lattice)
Grounds bytes (Err (errors.Fault f)) = (ground_from bytes ≡ Err f.fault) × (f.file ≡ files.Terrain)
Grounds bytes (Err (errors.Alloc e)) = Unit {0}
