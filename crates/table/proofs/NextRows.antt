-- What is answered at a line, by what was found in it; and what follows from an answer.
use Rattle.std.proofs.Common.{◌≡◌, ℕ, ◌+◌, ◌<◌, Bool, true, false, not, cond, ◌||◌, eqb, ltb, List, [], ◌∷◌, map, length, get_or, take, drop, ℤ, pos, Some, None, Ok, Err, Option, Result, position, sym, refl, ap, ◌∙◌, ⊎_elim, arith, ne_eqb}
use Rattle.std.specs.Borrow.{Bor}
use Rattle.std.specs.Str.{bytes_eq}
use Rattle.std.specs.List.{list_any, position_from, enumerate_from}
use Rattle.std.specs.Option.{option_map}
use Rattle.std.proofs.lemmas.Iterator.Adapters.{position_from-zero}
use Rattle.std.proofs.lemmas.Bool.{cond-true, cond-false, cases_Bool, or_parts, eqb-true, eqb-false}
use Rattle.refusal.specs.declared.Fault.{Fault}
use Rattle.table.specs.Text.{fields, lines}
use Rattle.refusal.specs.declared.Refusal.TheVariants.{ColumnName, FieldValue}
use Rattle.table.specs.Names.{held, known}
use Rattle.table.specs.Reading.{and_then, line_at, first_not, unless, checked, good_name, good_value, value_of, filled, row_by, ended, row_at}
use Rattle.table.proofs.Cuts.{some_part, cut_some, cut_none, somewhere}
use Rattle.table.proofs.Variants.{err_ok, ok_same}

pub not_ended : (text : List ℕ) → (length text ≡ 0 → ⊥) → ended (lines text) ≡ false
not_ended text h =
    ⊎_elim (λ w. let e = cut_some 10 text w.0 w.1 in
    let s = some_part 10 (drop (w.0 + 1) text) in
    ap ended e ∙ ne_eqb (length (take w.0 text) + length (lines (drop (w.0 + 1) text))) 0 (λ z. let k : ⊥ = omega arith in k))
    (λ e. ap ended (cut_none 10 text e) ∙ ne_eqb (length text + 0) 0 (λ z. h (omega arith))) (somewhere (λ x. eqb x 10) text (position (λ x. eqb x 10) text) refl)

-- what a line that was read leads to
abbrev pub row_on : (List (List ℕ) → List ℤ) → ℕ → List ℕ → Result (Option (List ℤ)) Fault
row_on row n l = and_then (checked good_value FieldValue n (fields l)) (λ fs. Ok (Some (row fs)))

module _ (row : List (List ℕ) → List ℤ) (count n : ℕ) (ls : List (List ℕ)) (more : ended ls ≡ false) where
  pub at_line : row_at row count n ls ≡ and_then (line_at count n ls) (row_on row n)
  at_line = cond-false _ _ _ more

  pub row_refused : (f : Fault) → line_at count n ls ≡ Err f → Err f ≡ row_at row count n ls
  row_refused f e = sym (at_line ∙ ap (λ (r : Result (List ℕ) Fault). and_then r (row_on row n)) e)

  pub row_checked : (l : List ℕ) (r : Result (List (List ℕ)) Fault) → line_at count n ls ≡ Ok l → checked good_value FieldValue n (fields l) ≡ r → row_at row count n ls ≡ and_then r (λ fs. Ok (Some (row fs)))
  row_checked l r e b =
      at_line ∙ ap (λ (x : Result (List ℕ) Fault). and_then x (row_on row n)) e ∙ ap (λ (x : Result (List (List ℕ)) Fault). and_then x (λ fs. Ok (Some (row fs)))) b

-- a row from the values that were found
pub row_found : (found : List ℤ) (fs : List (List ℕ)) (places : List ℕ) (count : ℕ) → ((k : ℕ) → get_or found k (pos 0) ≡ value_of (get_or fs k [])) →
    filled (map (λ place. get_or found place (pos 0)) (take count places)) ≡ row_by places count fs
row_found found fs places count told = λ i. filled (map (λ place. told place i) (take count places))

-- the first field that is not good, by its place
bad_from : (good : ℕ → List ℕ → Bool) (i : ℕ) (fs : List (List ℕ)) → first_not good i fs ≡ option_map (λ k. k + 1) (position_from (λ (p : ℕ × List ℕ). not (good p.0 p.1)) i (enumerate_from i fs))
bad_from good i [] = refl
bad_from good i (f ∷ fs) =
    elim (good i f) as (λ b. cond b (first_not good (i + 1) fs) (Some (i + 1)) ≡ option_map (λ k. k + 1) (cond (not b) (Some i) (position_from (λ (p : ℕ × List ℕ). not (good p.0 p.1)) (i + 1) (enumerate_from (i + 1) fs))))
    [ true ↦ bad_from good (i + 1) fs | false ↦ refl ]

pub bad_is : (good : ℕ → List ℕ → Bool) (fs : List (List ℕ)) (o : Option ℕ) → position (λ (p : ℕ × List ℕ). not (good p.0 p.1)) (enumerate_from 0 fs) ≡ o → first_not good 0 fs ≡ option_map (λ k. k + 1) o
bad_is good fs o e = bad_from good 0 fs ∙ ap (option_map (λ k. k + 1)) (sym (position_from-zero (λ (p : ℕ × List ℕ). not (good p.0 p.1)) (enumerate_from 0 fs)) ∙ e)

-- a line that is taken has a line feed, stands first and has the right number of fields
pub record Taken (count : ℕ) (ls : List (List ℕ)) (l : List ℕ) : Type 0 where
  pub fed : 1 < length ls
  pub first : get_or ls 0 [] ≡ l
  pub fits : length (fields l) ≡ count

pub taken : (count n : ℕ) (ls : List (List ℕ)) (l : List ℕ) → line_at count n ls ≡ Ok l → Taken count ls l
taken count n [] l e = absurd (err_ok e)
taken count n (x ∷ xs) l e =
    let lost = eqb (length xs) 0 || ltb 200 (length x) in
    let right = eqb (length (fields x)) count in
    ⊎_elim (λ t. absurd (err_ok (sym (cond-true lost _ _ t) ∙ e)))
    (λ f. let k = sym (cond-false lost _ _ f) ∙ e in
    let ne = eqb-false (length xs) 0 (or_parts _ _ f).0 in
    ⊎_elim (λ t. let s = ok_same (sym (cond-true right _ _ t) ∙ k) in
    record { fed = omega arith; first = s; fits = ap (λ (y : List ℕ). length (fields y)) (sym s) ∙ eqb-true (length (fields x)) count t })
    (λ g. absurd (err_ok (sym (cond-false right _ _ g) ∙ k))) (cases_Bool right))
    (cases_Bool lost)

-- an accepted names line
pub record Headed (ns : List (List ℕ)) (ls heads : List (List ℕ)) : Type 0 where
  pub line : List ℕ
  pub is : Taken (length ns) ls line
  pub are : heads ≡ fields line
  pub good : first_not (good_name ns heads) 0 heads ≡ None

heads_kept : (hs heads : List (List ℕ)) (o : Option ℕ) → unless ColumnName 1 hs o ≡ Ok heads → (heads ≡ hs) × (o ≡ None)
heads_kept hs heads None e = (sym (ok_same e), refl)
heads_kept hs heads (Some c) e = absurd (err_ok e)

-- the names line, from the line that was read
abbrev pub heads_on : List (List ℕ) → List ℕ → Result (List (List ℕ)) Fault
heads_on ns l = checked (good_name ns (fields l)) ColumnName 1 (fields l)

heads_from : (ns : List (List ℕ)) (heads : List (List ℕ)) (r : Result (List ℕ) Fault) → and_then r (heads_on ns) ≡ Ok heads → (l : List ℕ) × (r ≡ Ok l) × (heads ≡ fields l) × (first_not (good_name ns (fields l)) 0 (fields l) ≡ None)
heads_from ns heads (Err f) e = absurd (err_ok e)
heads_from ns heads (Ok l) e = let k = heads_kept (fields l) heads _ e in (l, refl, k.0, k.1)

pub headed : (ns ls heads : List (List ℕ)) → and_then (line_at (length ns) 1 ls) (heads_on ns) ≡ Ok heads → Headed ns ls heads
headed ns ls heads e =
    let k = heads_from ns heads (line_at (length ns) 1 ls) e in
    record { line = k.0; is = taken (length ns) 1 ls k.0 k.1; are = k.2; good = ap (λ (hs : List (List ℕ)). first_not (good_name ns hs) 0 hs) k.2 ∙ k.3 }

-- a name among those that are lent
pub known_held : (names : List (Bor (List ℕ))) (f : List ℕ) → known (held names) f ≡ list_any (λ (x : Bor (List ℕ)). bytes_eq x.now f) names
known_held [] f = refl
known_held (x ∷ xs) f = ap (λ (b : Bool). bytes_eq x.now f || b) (known_held xs f)
