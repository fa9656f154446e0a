-- Row after row: what the reader answers, and what the text says from where it stands.
use Rattle.std.proofs.Common.{is_some, true, ◌-◌, ◌≡◌, ℕ, zero, suc, ◌+◌, ◌<◌, ◌≤◌, min, cond, eqb, ltb, List, [], ◌∷◌, map, length, get_or, take, drop, ℤ, pos, Some, None, Ok, Err, Option, Result, option_and_then, unwrap_or, sym, refl, ap, ◌∙◌, subst, ⊎_elim, arith, ltb-false}
use Rattle.std.proofs.lemmas.List.{drop-drop, length-map, get_or-map, get_or_past, length-take-le, get_or-take, ext_get_or}
use Rattle.std.proofs.lemmas.List.FromFn.{length-map-range_with_len, get_or-map-range_with_len}
use Rattle.std.proofs.lemmas.Option.{slice_get-get_or}
use Rattle.std.proofs.lemmas.Bool.{false≢true, cond_both, cond-true, cond-false, cases_Bool}
use Rattle.refusal.specs.declared.Fault.{Fault}
use Rattle.table.specs.declared.table.Table.{Table}
use Rattle.table.specs.declared.table.Table.TheVariants.{Nodes, Areas, Legs}
use Rattle.refusal.specs.declared.Refusal.TheVariants.{FieldValue}
use Rattle.table.specs.Text.{fields, lines, first_line}
use Rattle.table.specs.Names.{column_names, position_of, place_in, place_at, places_of}
use Rattle.table.specs.Reading.{Reading, and_then, opened_text, line_at, first_not, unless, good_value, heads_of, value_of, row_under, row_by, filled, ended, row_at, after, rows_from, refused, body, reading, left, Named, row_of, Stands}
use Rattle.table.proofs.Cuts.{some_part, second_part}
use Rattle.table.proofs.NextRows.{row_on, taken, headed}

module _ (row : List (List ℕ) → List ℤ) (count : ℕ) where
  pub unrolled : (n : ℕ) (ls : List (List ℕ)) → 0 < length ls → rows_from row count n ls ≡ after (row_at row count n ls) (rows_from row count (n + 1) (drop 1 ls))
  unrolled n [] h = absurd (let k : ⊥ = omega arith in k)
  unrolled n (l ∷ ls) h = refl

  -- only a line with a line feed gives a row
  pub two_lines : (n : ℕ) (ls : List (List ℕ)) (r : List ℤ) → row_at row count n ls ≡ Ok (Some r) → 1 < length ls
  two_lines n [] r e = absurd (let z : ◌≡◌ {A = ℕ} 0 1 = cc in let k : ⊥ = omega arith in k)
  two_lines n (l ∷ []) r e =
      let P : Result (Option (List ℤ)) Fault → Type 0 = λ a. a ≡ Ok (Some r) → ⊥ in
      absurd (cond_both (eqb (length l + 0) 0) (Ok None) (Err _) P (λ _ k. let z : ◌≡◌ {A = ℕ} 0 1 = cc in omega arith) (λ _ k. let z : ◌≡◌ {A = ℕ} 0 1 = cc in omega arith) e)
  two_lines n (l ∷ m ∷ ls) r e = omega arith

-- where the reader stands after an answer, there the rest begins
module _ (row : List (List ℕ) → List ℤ) (count : ℕ) (text : List ℕ) (at line at' line' : ℕ) where
  moved_on : (r : Result (Option (List ℤ)) Fault) → r ≡ row_at row count (line + 1) (lines (drop at text)) → Stands r (length (first_line (drop at text))) at line at' line'
      → after r (rows_from row count (line + 1 + 1) (drop 1 (lines (drop at text)))) ≡ after r (rows_from row count (line' + 1) (lines (drop at' text)))
  moved_on (Err f) e s = refl
  moved_on (Ok None) e s = refl
  moved_on (Ok (Some r)) e s =
      let rest = drop at text in
      let n : line + 1 + 1 ≡ line' + 1 = omega (arith, s.1) in
      let a : at + suc (length (first_line rest)) ≡ at' = omega (arith, s.0) in
      let cut : drop 1 (lines rest) ≡ lines (drop at' text) = sym (second_part 10 rest (two_lines row count (line + 1) (lines rest) r (sym e))).1 ∙ ap lines (drop-drop (suc (length (first_line rest))) at text ∙ ap (λ (k : ℕ). drop k text) a) in
      ap (after (Ok (Some r))) (ap (rows_from row count (line + 1 + 1)) cut ∙ ap (λ (k : ℕ). rows_from row count k (lines (drop at' text))) n)

  pub goes_on : (r : Result (Option (List ℤ)) Fault) → r ≡ row_at row count (line + 1) (lines (drop at text)) → Stands r (length (first_line (drop at text))) at line at' line'
      → rows_from row count (line + 1) (lines (drop at text)) ≡ after r (rows_from row count (line' + 1) (lines (drop at' text)))
  goes_on r e s =
      unrolled row count (line + 1) (lines (drop at text)) (some_part 10 (drop at text))
      ∙ ap (λ (a : Result (Option (List ℤ)) Fault). after a (rows_from row count (line + 1 + 1) (drop 1 (lines (drop at text))))) (sym e)
      ∙ moved_on r e s

-- values under names, and values by the places of the columns
past_all : (fs : List (List ℕ)) (p : ℕ) → length fs ≤ p → value_of (get_or fs p []) ≡ pos 0
past_all fs p h = ap value_of (get_or_past fs p [] h)

same_place : (heads fs : List (List ℕ)) (name : List ℕ) → length fs ≡ length heads → length fs ≤ 13 → value_of (get_or fs (unwrap_or (position_of heads name) 13) []) ≡ value_of (get_or fs (place_in heads name) [])
same_place heads fs name l s =
    let q = place_in heads name in
    let here = ltb q (length heads) in
    let at : Option ℕ → ℤ = λ o. value_of (get_or fs (unwrap_or o 13) []) in
    ⊎_elim (λ t. ap at (cond-true here (Some q) None t))
    (λ f. let ge = ltb-false q (length heads) f in ap at (cond-false here (Some q) None f) ∙ past_all fs 13 s ∙ sym (past_all fs q (omega arith))) (cases_Bool here)

pub row_by_places : (ns heads fs : List (List ℕ)) → length ns ≤ 13 → length heads ≡ length ns → length fs ≡ length ns → row_under ns heads fs ≡ row_by (places_of ns heads) (length ns) fs
row_by_places ns heads fs few lh lf =
    let g : List ℕ → ℤ = λ n. value_of (get_or fs (place_in heads n) []) in
    let at : ℕ → ℤ = λ p. value_of (get_or fs p []) in
    let places = places_of ns heads in
    let first = take (length ns) places in
    let lg = length-map ns g in
    let lp = length-map-range_with_len (place_at ns heads) 0 13 in
    let lt : length first ≡ length ns = length-take-le (length ns) places (omega arith) in
    let lf' = length-map first at in
    let read : (k : ℕ) → k < length ns → get_or (map at first) k (pos 0) ≡ at (place_at ns heads k) =
    λ k h. get_or-map at first k 0 (pos 0) (omega arith) ∙ ap at (get_or-take (length ns) places k 0 h ∙ get_or-map-range_with_len (place_at ns heads) 0 13 k k 0 (omega arith) (omega arith)) in
    let place : Option (List ℕ) → ℕ = λ o. unwrap_or (option_and_then (position_of heads) o) 13 in
    ap filled (sym (ext_get_or (pos 0) (map at first) (map g ns) (omega arith)
    (λ k h. let s : k < length ns = omega arith in
    read k s ∙ ap (λ (o : Option (List ℕ)). at (place o)) (slice_get-get_or ns k [] s) ∙ same_place heads fs (get_or ns k []) (omega arith) (omega arith) ∙ sym (get_or-map g ns k [] (pos 0) s))))

-- rows that are alike on lines with the right number of fields read alike
module _ (row row' : List (List ℕ) → List ℤ) (count : ℕ) (same : (fs : List (List ℕ)) → length fs ≡ count → row fs ≡ row' fs) where
  same_values : (n : ℕ) (fs : List (List ℕ)) (o : Option ℕ) → length fs ≡ count → and_then (unless FieldValue n fs o) (λ gs. Ok (Some (row gs))) ≡ and_then (unless FieldValue n fs o) (λ gs. Ok (Some (row' gs)))
  same_values n fs (Some c) h = refl
  same_values n fs None h = ap (λ (r : List ℤ). Ok (Some r)) (same fs h)

  same_line : (n : ℕ) (ls : List (List ℕ)) (r : Result (List ℕ) Fault) → line_at count n ls ≡ r → and_then r (row_on row n) ≡ and_then r (row_on row' n)
  same_line n ls (Err f) e = refl
  same_line n ls (Ok l) e = let t = taken count n ls l e in same_values n (fields l) (first_not good_value 0 (fields l)) t.fits

  same_rows : (n : ℕ) (ls : List (List ℕ)) → rows_from row count n ls ≡ rows_from row' count n ls
  same_rows n [] = refl
  same_rows n (l ∷ ls) =
      let here = ap (cond (ended (l ∷ ls)) (Ok None)) (same_line n (l ∷ ls) (line_at count n (l ∷ ls)) refl) in
      ap (λ (a : Result (Option (List ℤ)) Fault). after a (rows_from row count (n + 1) ls)) here ∙ ap (after (row_at row' count n (l ∷ ls))) (same_rows (n + 1) ls)

-- what a text says, from where the row reader begins
pub opening : (table : Table) (text : List ℕ) (heads : List (List ℕ)) → length (column_names table) ≤ 13 → opened_text text ≡ Ok text → heads_of (column_names table) text ≡ Ok heads
    → reading table text ≡ rows_from (row_by (places_of (column_names table) heads) (length (column_names table))) (length (column_names table)) 2 (lines (drop (min (length (first_line text) + 1) (length text)) text))
opening table text heads few o e =
    let ns = column_names table in
    let h = headed ns (lines text) heads e in
    let c = second_part 10 text h.is.fed in
    let b = c.0 in
    let m : suc (length (first_line text)) ≡ min (length (first_line text) + 1) (length text) = omega arith in
    let l : length heads ≡ length ns = ap length h.are ∙ h.is.fits in
    ap (λ (t : Result (List ℕ) Fault). body ns text (and_then t (heads_of ns))) o ∙ ap (body ns text) e
    ∙ same_rows (row_under ns heads) (row_by (places_of ns heads) (length ns)) (length ns) (λ fs s. row_by_places ns heads fs few l s) 2 (drop 1 (lines text))
    ∙ ap (rows_from (row_by (places_of ns heads) (length ns)) (length ns) 2) (sym c.1 ∙ ap (λ (j : ℕ). lines (drop j text)) m)

pub refused_open : (table : Table) (text : List ℕ) (f : Fault) → opened_text text ≡ Err f → reading table text ≡ refused f
refused_open table text f e = ap (λ (t : Result (List ℕ) Fault). body (column_names table) text (and_then t (heads_of (column_names table)))) e

pub refused_heads : (table : Table) (text : List ℕ) (f : Fault) → opened_text text ≡ Ok text → heads_of (column_names table) text ≡ Err f → reading table text ≡ refused f
refused_heads table text f o e = ap (λ (t : Result (List ℕ) Fault). body (column_names table) text (and_then t (heads_of (column_names table)))) o ∙ ap (body (column_names table) text) e

pub few : (table : Table) → length (column_names table) ≤ 13
few Nodes = omega arith
few Areas = omega arith
few Legs = omega arith

-- the same, at the row reader's own numbers
pub at_start : (table : Table) (text : List ℕ) (heads : List (List ℕ)) → opened_text text ≡ Ok text → heads_of (column_names table) text ≡ Ok heads
    → (places : List ℕ) (at line : ℕ) → places ≡ places_of (column_names table) heads → at ≡ min (length (first_line text) + 1) (length text) → line ≡ 1
    → reading table text ≡ left table places text at line
at_start table text heads o e places at line eo ea el =
    let count = length (column_names table) in
    opening table text heads (few table) o e
    ∙ ap (λ (p : List ℕ). rows_from (row_by p count) count 2 (lines (drop (min (length (first_line text) + 1) (length text)) text))) (sym eo)
    ∙ ap (λ (a : ℕ). rows_from (row_by places count) count 2 (lines (drop a text))) (sym ea)
    ∙ ap (λ (l : ℕ). rows_from (row_by places count) count (l + 1) (lines (drop at text))) (sym el)

-- the row wanted, by what the reader answers next
pub row_refused : (k : ℕ) (f : Fault) (more : Reading) → row_of k (after (Err f) more) ≡ Err f
row_refused zero f more = refl
row_refused (suc k) f more = refl

-- a text that was opened, whose names line was accepted, says what its row reader has to read
pub begun : (T T' T'' : Table) (x x' x'' : List ℕ) (p : List ℕ) (l : Reading) → opened_text x ≡ Ok x → x' ≡ x → T' ≡ T → x'' ≡ x' → T'' ≡ T' → Named T' x' p
    → (opened_text x'' ≡ Ok x'' → Named T'' x'' p → reading T'' x'' ≡ l) → reading T x ≡ l
begun T T' T'' x x' x'' p l o ex eT ex' eT' n whole =
    let e = ex' ∙ ex in
    let Opens : List ℕ → Type 0 = λ t. opened_text t ≡ Ok t in
    let At : Table → Type 0 = λ t. Named t x' p in
    let On : List ℕ → Type 0 = λ t. Named T'' t p in
    sym (ap (λ (t : Table). reading t x'') (eT' ∙ eT) ∙ ap (reading T) e) ∙ whole (subst Opens (sym e) o) (subst On (sym ex') (subst At (sym eT') n))

-- a row was passed on the way to row k
pub row_past : (k i : ℕ) (o : Option (List ℤ)) (more : Reading) → i < k → is_some o ≡ true → row_of (k - i) (after (Ok o) more) ≡ row_of (k - (i + 1)) more
row_past k i None more l s = absurd (false≢true s)
row_past k i (Some r) more l s =
    let one : k - i ≡ suc (k - (i + 1)) = omega arith in
    ap (λ (n : ℕ). row_of n (after (Ok (Some r)) more)) one
