-- Laws of what two tables load.
use Rattle.std.proofs.Common.{◌≡◌, ℕ, ◌+◌, eqb, List, [], ◌∷◌, ◌++◌, map, ℤ, Some, None, Ok, Err, fold, Option, Result, sym, refl, ap, ◌∙◌, ⊎_elim, arith}
use Rattle.std.proofs.lemmas.Bool.{cond-true, cond-false, cases_Bool}
use Rattle.refusal.specs.declared.Fault.{Fault}
use Rattle.refusal.specs.Numbers.{refusal_of, fault}
use Rattle.table.specs.declared.table.Table.TheVariants.{Nodes, Areas}
use Rattle.table.specs.Reading.{Reading, reading}
use Rattle.table.specs.Rearranged.{Rearranged}
use Rattle.table.proofs.Alike.{alike}
use Rattle.files.specs.declared.file.File.TheVariants as files
use Rattle.sheet.specs.declared.call.Call.{Call}
use Rattle.sheet.specs.Calls.{SheetData, empty_sheet, call_refusal, after}
use Rattle.loading.specs.Loading.{add_of, publish_of, rows_loaded, load_reading, placed_in_file, and_then, load_both, loaded_of}
use Rattle.loading.specs.Loads.{Built}

err_ok : {A B : Type 0} {a : A} {b : B} → ◌≡◌ {A = Result A B} (Err b) (Ok a) → ⊥
err_ok e = let z : ◌≡◌ {A = ℕ} 0 1 = cc in omega arith

ok_ok : {A B : Type 0} {a b : A} → ◌≡◌ {A = Result A B} (Ok a) (Ok b) → a ≡ b
ok_ok e = cc

-- ---- a table without a fault

module _ (call : List ℤ → Call) where
  -- every row was taken, and nothing ended the reading
  pub all_taken : (sheet : SheetData) (n : ℕ) (rows : List (List ℤ)) (stop : Option Fault) (end : SheetData) → rows_loaded call sheet n rows stop ≡ Ok end
      → (end ≡ fold after sheet (map call rows)) × (stop ≡ None)
  all_taken sheet n [] None end e = (sym (ok_ok e), refl)
  all_taken sheet n [] (Some f) end e = absurd (err_ok e)
  all_taken sheet n (row ∷ rows) stop end e =
      let free = eqb (call_refusal sheet (call row)) 0 in
      let next = rows_loaded call (after sheet (call row)) (n + 1) rows stop in
      let here : Result SheetData Fault = Err (fault (refusal_of (call_refusal sheet (call row))) n 0) in
      ⊎_elim
      (λ t. all_taken (after sheet (call row)) (n + 1) rows stop end (sym (cond-true free next here t) ∙ e))
      (λ f. absurd (err_ok (sym (cond-false free next here f) ∙ e)))
      (cases_Bool free)

folded_both : (sheet : SheetData) (a b : List Call) → fold after sheet (a ++ b) ≡ fold after (fold after sheet a) b
folded_both sheet [] b = refl
folded_both sheet (call ∷ a) b = folded_both (after sheet call) a b

-- ---- both tables

module _ (nodes areas : List ℕ) (sheet : SheetData) where
  second_built : (middle : SheetData) → load_reading add_of empty_sheet (reading Nodes nodes) ≡ Ok middle →
      (o : Result SheetData Fault) → load_reading publish_of middle (reading Areas areas) ≡ o → placed_in_file files.Areas o ≡ Ok sheet → Built nodes areas sheet
  second_built middle added (Ok end) published e =
      let a = all_taken add_of empty_sheet 2 (reading Nodes nodes).rows (reading Nodes nodes).stop middle added in
      let b = all_taken publish_of middle 2 (reading Areas areas).rows (reading Areas areas).stop end published in
      let adds = map add_of (reading Nodes nodes).rows in
      let publishes = map publish_of (reading Areas areas).rows in
      (sym (ok_ok e) ∙ b.0 ∙ ap (λ (s : SheetData). fold after s publishes) a.0 ∙ sym (folded_both empty_sheet adds publishes), a.1, b.1)
  second_built middle added (Err f) published e = absurd (err_ok e)

  first_built : (o : Result SheetData Fault) → load_reading add_of empty_sheet (reading Nodes nodes) ≡ o →
      and_then (placed_in_file files.Nodes o) (λ s. placed_in_file files.Areas (load_reading publish_of s (reading Areas areas))) ≡ Ok sheet → Built nodes areas sheet
  first_built (Ok middle) added e = second_built middle added (load_reading publish_of middle (reading Areas areas)) refl e
  first_built (Err f) added e = absurd (err_ok e)

  -- a sheet that is loaded is built by the rows of both texts
  pub loaded_built : loaded_of nodes areas ≡ Ok sheet → Built nodes areas sheet
  loaded_built e = first_built (load_reading add_of empty_sheet (reading Nodes nodes)) refl e

-- the order of the columns does not matter
pub same_loaded : (nodes areas places others places' others' : List ℕ) → Rearranged Nodes places nodes others → Rearranged Areas places' areas others' → loaded_of others others' ≡ loaded_of nodes areas
same_loaded nodes areas places others places' others' r r' =
    ap (λ (x : Reading). load_both x (reading Areas others')) (sym (alike Nodes places nodes others r)) ∙ ap (load_both (reading Nodes nodes)) (sym (alike Areas places' areas others' r'))
