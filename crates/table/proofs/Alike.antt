-- Two accepted texts, alike up to one rearrangement of the columns, say the same.
use Rattle.std.proofs.Common.{◌≡◌, ℕ, suc, ◌+◌, ◌<◌, Bool, true, false, cond, eqb, List, [], ◌∷◌, map, length, get_or, drop, ℤ, Some, None, Ok, Err, Option, Result, sym, refl, ap, ◌∙◌, ⊎_elim, arith, ne_eqb}
use Rattle.std.specs.List.{AllZip}
use Rattle.std.proofs.lemmas.Bool.{cond-true, cond-false, cases_Bool}
use Rattle.refusal.specs.declared.Fault.{Fault}
use Rattle.table.specs.declared.table.Table.{Table}
use Rattle.table.specs.Text.{fields, lines}
use Rattle.table.specs.Names.{column_names}
use Rattle.refusal.specs.declared.Refusal.TheVariants.{TextStart, FieldValue}
use Rattle.refusal.specs.Numbers.{fault}
use Rattle.table.specs.Reading.{Reading, and_then, opened_text, line_at, first_not, unless, good_value, heads_of, row_under, after, rows_from, body, reading}
use Rattle.table.specs.Rearranged.{ending, Rearrangement, Moved, Rearranged}
use Rattle.table.proofs.NextRows.{row_on, at_line, taken, Headed, headed}
use Rattle.table.proofs.Columns.{same_row}
use Rattle.table.proofs.Variants.{some_none, err_ok}

-- an accepted line gave its row, and what follows is accepted
accepted_values : (row : List (List ℕ) → List ℤ) (n : ℕ) (fs : List (List ℕ)) (o : Option ℕ) (more : Reading) → (after (and_then (unless FieldValue n fs o) (λ gs. Ok (Some (row gs)))) more).stop ≡ None → (and_then (unless FieldValue n fs o) (λ gs. Ok (Some (row gs))) ≡ Ok (Some (row fs))) × (more.stop ≡ None)
accepted_values row n fs None more e = (refl, e)
accepted_values row n fs (Some c) more e = absurd (some_none e)

accepted_line : (row : List (List ℕ) → List ℤ) (n : ℕ) (r : Result (List ℕ) Fault) (more : Reading) → (after (and_then r (row_on row n)) more).stop ≡ None → (l : List ℕ) × (r ≡ Ok l) × (and_then r (row_on row n) ≡ Ok (Some (row (fields l)))) × (more.stop ≡ None)
accepted_line row n (Err f) more e = absurd (some_none e)
accepted_line row n (Ok l) more e = let k = accepted_values row n (fields l) (first_not good_value 0 (fields l)) more e in (l, refl, k.0, k.1)

-- at the last part an accepted text ends
module _ (row : List (List ℕ) → List ℤ) (count n : ℕ) where
  pub last_part : (l : List ℕ) → (rows_from row count n (l ∷ [])).stop ≡ None → rows_from row count n (l ∷ []) ≡ record { rows = []; stop = None }
  last_part l e =
      let b = eqb (length l + 0) 0 in
      let to : Result (Option (List ℤ)) Fault → Reading = λ a. after a (rows_from row count (n + 1) []) in
      ⊎_elim (λ t. ap to (cond-true b _ _ t)) (λ f. absurd (some_none (sym (ap (λ (a : Result (Option (List ℤ)) Fault). (to a).stop) (cond-false b _ _ f)) ∙ e))) (cases_Bool b)

  pub inner_line : (l m : List ℕ) (ls : List (List ℕ)) → (rows_from row count n (l ∷ m ∷ ls)).stop ≡ None
      → (length (fields l) ≡ count) × ((rows_from row count (n + 1) (m ∷ ls)).stop ≡ None) × (rows_from row count n (l ∷ m ∷ ls) ≡ after (Ok (Some (row (fields l)))) (rows_from row count (n + 1) (m ∷ ls)))
  inner_line l m ls e =
      let more = rows_from row count (n + 1) (m ∷ ls) in
      let to : Result (Option (List ℤ)) Fault → Reading = λ a. after a more in
      let go = at_line row count n (l ∷ m ∷ ls) (ne_eqb (length l + suc (length ls)) 0 (λ z. let k : ⊥ = omega arith in k)) in
      let a = accepted_line row n (line_at count n (l ∷ m ∷ ls)) more (sym (ap (λ (x : Result (Option (List ℤ)) Fault). (to x).stop) go) ∙ e) in
      let t = taken count n (l ∷ m ∷ ls) a.0 a.1 in
      (ap (λ (y : List ℕ). length (fields y)) t.first ∙ t.fits, a.3, ap to (go ∙ a.2 ∙ ap (λ (y : List ℕ). Ok (Some (row (fields y)))) (sym t.first)))

-- the lines after the names
same_lines : (row row' : List (List ℕ) → List ℤ) (count : ℕ) (places : List ℕ) → ((l m : List ℕ) → Moved places l m → length (fields l) ≡ count → row' (fields m) ≡ row (fields l))
    → (n : ℕ) (ls ms : List (List ℕ)) → 0 < length ls → 0 < length ms → AllZip (Moved places) (ending ls) (ending ms) → (rows_from row count n ls).stop ≡ None → (rows_from row' count n ms).stop ≡ None → rows_from row' count n ms ≡ rows_from row count n ls
same_lines row row' count places same n [] ms h k e a b = absurd (let z : ⊥ = omega arith in z)
same_lines row row' count places same n (l ∷ []) [] h k e a b = absurd (let z : ⊥ = omega arith in z)
same_lines row row' count places same n (l ∷ []) (m ∷ []) h k e a b = last_part row' count n m b ∙ sym (last_part row count n l a)
same_lines row row' count places same n (l ∷ []) (m ∷ m2 ∷ ms) h k e a b = absurd e
same_lines row row' count places same n (l ∷ l2 ∷ ls) [] h k e a b = absurd (let z : ⊥ = omega arith in z)
same_lines row row' count places same n (l ∷ l2 ∷ ls) (m ∷ []) h k e a b = absurd e
same_lines row row' count places same n (l ∷ l2 ∷ ls) (m ∷ m2 ∷ ms) h k e a b =
    let x = inner_line row count n l l2 ls a in
    let y = inner_line row' count n m m2 ms b in
    let ih = same_lines row row' count places same (n + 1) (l2 ∷ ls) (m2 ∷ ms) (omega arith) (omega arith) e.1 x.1 y.1 in
    y.2 ∙ ap (after (Ok (Some (row' (fields m))))) ih ∙ ap (λ (r : List ℤ). after (Ok (Some r)) (rows_from row count (n + 1) (l2 ∷ ls))) (same l m e.0 x.0) ∙ sym x.2

-- the names line, and then the rest
same_body : (ns : List (List ℕ)) (places : List ℕ) → Rearrangement (length ns) places → (ls ms heads heads' : List (List ℕ)) → Headed ns ls heads → Headed ns ms heads' → AllZip (Moved places) (ending ls) (ending ms)
    → (rows_from (row_under ns heads) (length ns) 2 (drop 1 ls)).stop ≡ None → (rows_from (row_under ns heads') (length ns) 2 (drop 1 ms)).stop ≡ None
    → rows_from (row_under ns heads') (length ns) 2 (drop 1 ms) ≡ rows_from (row_under ns heads) (length ns) 2 (drop 1 ls)
same_body ns places r [] ms heads heads' h k e a b = absurd (let f = h.is.fed in let z : ⊥ = omega arith in z)
same_body ns places r (l ∷ []) ms heads heads' h k e a b = absurd (let f = h.is.fed in let z : ⊥ = omega arith in z)
same_body ns places r (l ∷ l2 ∷ ls) [] heads heads' h k e a b = absurd (let f = k.is.fed in let z : ⊥ = omega arith in z)
same_body ns places r (l ∷ l2 ∷ ls) (m ∷ []) heads heads' h k e a b = absurd e
same_body ns places r (l ∷ l2 ∷ ls) (m ∷ m2 ∷ ms) heads heads' h k e a b =
    let hl = h.are ∙ sym (ap fields h.is.first) in
    let kl = k.are ∙ sym (ap fields k.is.first) in
    let names' : heads' ≡ map (λ p. get_or heads p []) places = kl ∙ e.0 ∙ sym (ap (λ (hs : List (List ℕ)). map (λ p. get_or hs p []) places) hl) in
    let lh = ap length h.are ∙ h.is.fits in
    same_lines (row_under ns heads) (row_under ns heads') (length ns) places
    (λ x y moved len. ap (λ (hs : List (List ℕ)). row_under ns hs (fields y)) names' ∙ ap (row_under ns (map (λ p. get_or heads p []) places)) moved ∙ same_row (length ns) places r ns heads (fields x) lh len h.good)
    2 (l2 ∷ ls) (m2 ∷ ms) (omega arith) (omega arith) e.1 a b

-- an accepted text has names, and says its rows
accepted_heads : (ns : List (List ℕ)) (text : List ℕ) (r : Result (List (List ℕ)) Fault) → (body ns text r).stop ≡ None → (heads : List (List ℕ)) × (r ≡ Ok heads)
accepted_heads ns text (Err f) e = absurd (some_none e)
accepted_heads ns text (Ok heads) e = (heads, refl)

opened_heads : (ns : List (List ℕ)) (refused : Bool) (text : List ℕ) (heads : List (List ℕ)) → and_then (cond refused (Err (fault TextStart 1 0)) (Ok text)) (heads_of ns) ≡ Ok heads → heads_of ns text ≡ Ok heads
opened_heads ns true text heads e = absurd (err_ok e)
opened_heads ns false text heads e = e

pub accepted : (table : Table) (text : List ℕ) → (reading table text).stop ≡ None
    → (heads : List (List ℕ)) × Headed (column_names table) (lines text) heads × (reading table text ≡ rows_from (row_under (column_names table) heads) (length (column_names table)) 2 (drop 1 (lines text)))
accepted table text e =
    let ns = column_names table in
    let h = accepted_heads ns text (and_then (opened_text text) (heads_of ns)) e in
    let k = opened_heads ns _ text h.0 h.1 in
    (h.0, headed ns (lines text) h.0 k, ap (body ns text) h.1)

pub alike : (table : Table) (places text other : List ℕ) → Rearranged table places text other → reading table text ≡ reading table other
alike table places text other r =
    let x = accepted table text r.good in
    let y = accepted table other r.alike in
    let stop : Reading → Option Fault = λ t. t.stop in
    x.2 ∙ sym (same_body (column_names table) places r.order (lines text) (lines other) x.0 y.0 x.1 y.1 r.moved (sym (ap stop x.2) ∙ r.good) (sym (ap stop y.2) ∙ r.alike)) ∙ sym y.2
