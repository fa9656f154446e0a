-- A list cut at its marks: the first part, the rest, and how many parts there are.
use Rattle.std.proofs.Common.{◌≡◌, ℕ, suc, ◌+◌, ◌<◌, ◌≤◌, Bool, true, false, not, eqb, ltb, ◌⊎◌, List, [], ◌∷◌, length, get_or, take, drop, Some, None, Option, position, sym, refl, ap, ◌∙◌, inl, inr, ⊎_elim, arith, ltb-true, ltb-false}
use Rattle.std.specs.List.{position_or_len}
use Rattle.std.proofs.lemmas.List.{length-take-le}
use Rattle.std.proofs.lemmas.List.Splits.{slice_split_first, slice_split_none, length-slice_split}
use Rattle.std.proofs.lemmas.List.Sums.{count_by-le-length, prefix_len_passes, prefix_len_stops}
use Rattle.std.proofs.lemmas.Bool.{cond-true, cond-false, cases_Bool}
use Rattle.table.specs.Text.{parts, fields}
use Rattle.table.proofs.Variants.{some_none, some_same}

-- there is always one part at least
pub some_part : (m : ℕ) (xs : List ℕ) → 0 < length (parts m xs)
some_part m xs = let l = length-slice_split (λ x. eqb x m) xs in omega arith

pub few_fields : (line : List ℕ) → length (fields line) ≤ length line + 1
few_fields line = let l = length-slice_split (λ x. eqb x 32) line in let c = count_by-le-length (λ x. eqb x 32) line in omega arith

not_true : (b : Bool) → not b ≡ true → b ≡ false
not_true true e = sym e
not_true false e = refl

not_false : (b : Bool) → not b ≡ false → b ≡ true
not_false true e = refl
not_false false e = sym e

-- what `position` says
module _ {X : Type 0} (p : X → Bool) (xs : List X) where
  pub found_at : (n : ℕ) → position p xs ≡ Some n → (position_or_len p xs ≡ n) × (n < length xs)
  found_at n e =
      let q = position_or_len p xs in
      let here = ltb q (length xs) in
      ⊎_elim (λ t. let s = some_same (sym (cond-true here _ _ t) ∙ e) in let l = ltb-true q (length xs) t in (s, let k : n < length xs = omega arith in k))
      (λ f. absurd (some_none (sym e ∙ cond-false here _ _ f))) (cases_Bool here)

  pub found_nowhere : position p xs ≡ None → length xs ≤ position_or_len p xs
  found_nowhere e =
      let q = position_or_len p xs in
      let here = ltb q (length xs) in
      ⊎_elim (λ t. absurd (some_none (sym (cond-true here _ _ t) ∙ e))) (λ f. ltb-false q (length xs) f) (cases_Bool here)

  pub missed_before : (k : ℕ) (d : X) → k < position_or_len p xs → p (get_or xs k d) ≡ false
  missed_before k d h = not_true (p (get_or xs k d)) (prefix_len_passes (λ x. not (p x)) xs k d h)

  pub passes_at : (d : X) → position_or_len p xs < length xs → p (get_or xs (position_or_len p xs) d) ≡ true
  passes_at d h = not_false (p (get_or xs (position_or_len p xs) d)) (prefix_len_stops (λ x. not (p x)) xs d h)

  pub somewhere : (o : Option ℕ) → position p xs ≡ o → ((n : ℕ) × (position p xs ≡ Some n)) ⊎ (position p xs ≡ None)
  somewhere None e = inr e
  somewhere (Some n) e = inl (n, e)

module _ (m : ℕ) (xs : List ℕ) where
  abbrev mark : ℕ → Bool
  mark x = eqb x m

  -- the first mark stands at n
  pub cut_some : (n : ℕ) → position mark xs ≡ Some n → parts m xs ≡ take n xs ∷ parts m (drop (n + 1) xs)
  cut_some n e = let f = found_at mark xs n e in let l = f.0 in slice_split_first mark xs 0 (omega (arith, f.1)) ∙ ap (λ (k : ℕ). take k xs ∷ parts m (drop (k + 1) xs)) f.0

  -- there is no mark
  pub cut_none : position mark xs ≡ None → parts m xs ≡ xs ∷ []
  cut_none e = let l = found_nowhere mark xs e in slice_split_none mark xs (λ k d h. missed_before mark xs k d (omega arith))

  -- with a second part, the first part and its mark lie within, and the rest begins past them
  pub second_part : 1 < length (parts m xs) → (length (get_or (parts m xs) 0 []) < length xs) × (parts m (drop (suc (length (get_or (parts m xs) 0 []))) xs) ≡ drop 1 (parts m xs))
  second_part h =
      ⊎_elim (λ w. let e = cut_some w.0 w.1 in
      let lt = (found_at mark xs w.0 w.1).1 in
      let l = ap (λ (ps : List (List ℕ)). length (get_or ps 0 [])) e ∙ length-take-le w.0 xs (omega arith) in
      let at : suc (length (get_or (parts m xs) 0 [])) ≡ w.0 + 1 = omega arith in
      (omega arith, ap (λ (k : ℕ). parts m (drop k xs)) at ∙ sym (ap (drop 1) e)))
      (λ e. absurd (let l = ap length (cut_none e) in let z : ⊥ = omega arith in z)) (somewhere mark xs (position mark xs) refl)
