-- The whole listing: what it is made of, that every row keeps the promise, and that the order of columns does not matter.
use Rattle.std.proofs.Common.{◌≡◌, ℕ, Bool, true, false, cond, eqb, List, length, Some, None, Ok, Err, Option, Result, sym, refl, ap, ◌∙◌, subst, arith}
use Rattle.std.proofs.lemmas.Bool.{eqb-true}
use Rattle.refusal.specs.declared.Fault.{Fault}
use Rattle.refusal.specs.Numbers.{refusal_of, fault}
use Rattle.table.specs.declared.table.Table.TheVariants.{Legs}
use Rattle.table.specs.Names.{column_names}
use Rattle.table.specs.Reading.{body, reading}
use Rattle.table.proofs.Alike.{alike}
use Rattle.lattice.specs.Meaning.{terrain_of}
use Rattle.lattice.proofs.Lawful.{terrain_laws}
use Rattle.terrain.specs.Rows.{heights_of, file_refusal, file_heights}
use Rattle.terrain.specs.Fitting.{row_heights}
use Rattle.terrain.proofs.Files.{file_row_fits}
use Rattle.sheet.specs.Calls.{SheetData}
use Rattle.sheet.specs.Standing.{Standing}
use Rattle.sheet.specs.Kept.{Joint, alone, first, LawfulJoint}
use Rattle.sheet.proofs.Standings.{built_standing}
use Rattle.sheet.proofs.Keeping.{kept_of}
use Rattle.files.specs.declared.file.FileFault.{FileFault}
use Rattle.files.specs.Rows.{names_of}
use Rattle.loading.specs.Loading.{loaded_of, calls_of}
use Rattle.loading.proofs.Loaded.{loaded_built, same_loaded}
use Rattle.listing.specs.Ground.{ground_from}
use Rattle.listing.specs.Rows.{start_of, end_of}
use Rattle.listing.specs.Listing.{legs_listed, legs_by, over_ground, on_sheet, RowsKept, SameListing}

-- ---- outcomes are told apart

same_value : {A B : Type 0} {a b : A} → ◌≡◌ {A = Result A B} (Ok a) (Ok b) → a ≡ b
same_value e = cc

no_value : {A B : Type 0} {a : A} {b : B} → ◌≡◌ {A = Result A B} (Err b) (Ok a) → ⊥
no_value e = let z : ◌≡◌ {A = ℕ} 0 1 = cc in omega arith

some_none : {A : Type 0} {a : A} → ◌≡◌ {A = Option A} (Some a) None → ⊥
some_none e = let z : ◌≡◌ {A = ℕ} 0 1 = cc in omega arith

-- ---- the ground

module _ (bytes : List ℕ) (joint : Joint) where
  ground_by : (empty : Bool) → (fits : Bool) → eqb (file_refusal bytes) 0 ≡ fits →
      cond empty (Ok alone) (cond fits (Ok (first (terrain_of (heights_of (file_heights bytes))))) (Err (fault (refusal_of (file_refusal bytes)) 0 0))) ≡ Ok joint → LawfulJoint joint
  ground_by true fits t e = subst LawfulJoint (same_value e) tt
  ground_by false true t e =
      subst LawfulJoint (same_value e) (terrain_laws (heights_of (file_heights bytes)) (row_heights (file_heights bytes) (file_row_fits bytes (eqb-true (file_refusal bytes) 0 t))))
  ground_by false false t e = absurd (no_value e)

  ground_lawful : ground_from bytes ≡ Ok joint → LawfulJoint joint
  ground_lawful e = ground_by (eqb (length bytes) 0) (eqb (file_refusal bytes) 0) refl e

-- ---- every row keeps the promise

pub rows_kept : (nodes areas terrain : List ℕ) → RowsKept nodes areas terrain
rows_kept nodes areas terrain sheet joint loaded ground =
    let is = (loaded_built nodes areas sheet loaded).0 in
    let ok = subst Standing (sym is) (built_standing (calls_of nodes areas)) in
    (is, λ row. kept_of joint sheet ok (ground_lawful terrain joint ground) (start_of row) (end_of row) _ refl)

-- ---- the order of columns

heads_by : (text : List ℕ) (names : Result (List (List ℕ)) Fault) → (body (column_names Legs) text names).stop ≡ None → (heads : List (List ℕ)) × (names ≡ Ok heads)
heads_by text (Ok heads) e = (heads, refl)
heads_by text (Err f) e = absurd (some_none e)

-- a legs table that is accepted is listed by its rows alone
legs_by_rows : (joint : Joint) (sheet : SheetData) (legs : List ℕ) → (reading Legs legs).stop ≡ None → legs_by joint sheet (names_of Legs legs) (reading Legs legs) ≡ legs_listed joint sheet (reading Legs legs)
legs_by_rows joint sheet legs e = let heads = heads_by legs (names_of Legs legs) e in ap (λ (n : Result (List (List ℕ)) Fault). legs_by joint sheet n (reading Legs legs)) heads.1

module _ (legs legs' : List ℕ) (good : (reading Legs legs).stop ≡ None) (good' : (reading Legs legs').stop ≡ None) (same : reading Legs legs ≡ reading Legs legs') where
  same_over : (sheet : SheetData) (ground : Result Joint Fault) → over_ground sheet ground legs ≡ over_ground sheet ground legs'
  same_over sheet (Ok joint) = legs_by_rows joint sheet legs good ∙ ap (legs_listed joint sheet) same ∙ sym (legs_by_rows joint sheet legs' good')
  same_over sheet (Err f) = refl

  same_legs : (loaded : Result SheetData FileFault) (ground : Result Joint Fault) → on_sheet loaded ground legs ≡ on_sheet loaded ground legs'
  same_legs (Ok sheet) ground = same_over sheet ground
  same_legs (Err f) ground = refl

pub same_listing : (nodes areas terrain legs : List ℕ) → SameListing nodes areas terrain legs
same_listing nodes areas terrain legs places₁ places₂ places₃ nodes' areas' legs' n a l =
    ap (λ (r : Result SheetData FileFault). on_sheet r (ground_from terrain) legs) (sym (same_loaded nodes areas places₁ nodes' places₂ areas' n a))
    ∙ same_legs legs legs' l.good l.alike (alike Legs places₃ legs legs' l) (loaded_of nodes' areas') (ground_from terrain)
