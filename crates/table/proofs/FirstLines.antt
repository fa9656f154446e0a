-- The line that a text begins with, by where its first line feed stands.
use Rattle.std.proofs.Common.{◌≡◌, ℕ, ◌+◌, ◌<◌, ◌≤◌, false, ◌||◌, eqb, ltb, List, [], ◌∷◌, ◌++◌, length, get_or, take, drop, Some, None, Ok, Err, position, sym, ap, ◌∙◌, arith, le-ltb, lt-ltb, eq-eqb, ne_eqb}
use Rattle.std.specs.List.{position_or_len}
use Rattle.std.proofs.lemmas.List.{length-take-le, take-append-drop, drop_more, get_or-take}
use Rattle.std.proofs.lemmas.Bool.{cond-true, cond-false, or_right, or_from, eqb-true, eqb-false}
use Rattle.table.specs.Text.{fields, lines, first_line, LinePart}
use Rattle.refusal.specs.declared.Refusal.TheVariants.{LineEnd, FieldCount}
use Rattle.refusal.specs.Numbers.{fault}
use Rattle.table.specs.Reading.{line_at}
use Rattle.table.proofs.Cuts.{some_part, found_at, missed_before, passes_at, cut_some, cut_none}

pub no_feed : (count n : ℕ) (text : List ℕ) → position (λ x. eqb x 10) text ≡ None → line_at count n (lines text) ≡ Err (fault LineEnd n 0)
no_feed count n text e = ap (line_at count n) (cut_none 10 text e)

module _ (count n : ℕ) (text : List ℕ) (k : ℕ) (at : position (λ x. eqb x 10) text ≡ Some k) where
  cut : lines text ≡ take k text ∷ lines (drop (k + 1) text)
  cut = cut_some 10 text k at

  pub within : k < length text
  within = (found_at (λ x. eqb x 10) text k at).1

  len : length (take k text) ≡ k
  len = let w = within in length-take-le k text (omega arith)

  fed : eqb (length (lines (drop (k + 1) text))) 0 ≡ false
  fed = let h = some_part 10 (drop (k + 1) text) in ne_eqb _ 0 (λ e. let z : ⊥ = omega arith in z)

  pub first_is : take k text ≡ first_line text
  first_is = ap (λ (ls : List (List ℕ)). get_or ls 0 []) (sym cut)

  pub too_long : 200 < k → line_at count n (lines text) ≡ Err (fault LineEnd n 0)
  too_long h = let l = len in ap (line_at count n) cut ∙ cond-true _ _ _ (or_right _ _ (lt-ltb 200 (length (take k text)) (omega arith)))

  short : k ≤ 200 → (eqb (length (lines (drop (k + 1) text))) 0 || ltb 200 (length (take k text))) ≡ false
  short h = let l = len in or_from _ _ fed (le-ltb 200 (length (take k text)) (omega arith))

  pub wrong_count : k ≤ 200 → (length (fields (take k text)) ≡ count → ⊥) → line_at count n (lines text) ≡ Err (fault FieldCount n 0)
  wrong_count h c = ap (line_at count n) cut ∙ cond-false _ _ _ (short h) ∙ cond-false _ _ _ (ne_eqb _ _ c)

  pub right_count : k ≤ 200 → length (fields (take k text)) ≡ count → line_at count n (lines text) ≡ Ok (take k text)
  right_count h c = ap (line_at count n) cut ∙ cond-false _ _ _ (short h) ∙ cond-true _ _ _ (eq-eqb _ _ c)

  -- the part of the text that the line is
  pub first_part : LinePart text 0 (take k text)
  first_part =
      let l = len in
      let w = within in
      let q = (found_at (λ x. eqb x 10) text k at).0 in
      let here = ap (λ (j : ℕ). get_or text j 0) (sym q) ∙ eqb-true (get_or text (position_or_len (λ x. eqb x 10) text) 0) 10 (passes_at (λ x. eqb x 10) text 0 (omega arith)) in
      let past : k + 1 ≡ 0 + length (take k text) + 1 = omega arith in
      record {
        within = omega arith;
        part = sym (take-append-drop k text)
            ∙ ap (λ (r : List ℕ). take k text ++ r) (drop_more text k 0 w ∙ ap (λ (b : ℕ). b ∷ drop (k + 1) text) here ∙ ap (λ (j : ℕ). 10 ∷ drop j text) past);
        unbroken = λ j h e. eqb-false (get_or text j 0) 10 (missed_before (λ x. eqb x 10) text j 0 (omega arith)) (sym (get_or-take k text j 0 (omega arith)) ∙ e);
      }
