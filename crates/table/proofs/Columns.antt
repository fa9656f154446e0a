-- One rearrangement of the columns moves each name and its value together.
use Rattle.std.proofs.Common.{◌≡◌, ℕ, zero, suc, ◌+◌, ◌<◌, ◌≤◌, true, eqb, List, [], ◌∷◌, map, length, get_or, Some, None, Option, sym, ap, ◌∙◌, ⊎_elim, arith}
use Rattle.std.specs.Option.{option_eq}
use Rattle.std.specs.Str.{bytes_eq}
use Rattle.std.proofs.lemmas.Slice.Eq.{bytes_eq-Decides}
use Rattle.std.proofs.lemmas.List.{length-map, get_or-map, get_or_past}
use Rattle.std.proofs.lemmas.List.Elements.{at_from_Contains}
use Rattle.std.proofs.lemmas.Bool.{cond-true, cond-false, cases_Bool, false≢true, cases_lt, and_parts, eqb-true}
use Rattle.table.specs.Names.{position_of, place_in, known}
use Rattle.table.specs.Reading.{first_not, good_name, value_of, filled, row_under}
use Rattle.table.specs.Rearranged.{Rearrangement}
use Rattle.table.proofs.Cuts.{found_at, missed_before, passes_at}
use Rattle.table.proofs.Variants.{some_none}

-- the place of a name holds the name, and no earlier place does
pub found_there : (xs : List (List ℕ)) (f : List ℕ) → place_in xs f < length xs → get_or xs (place_in xs f) [] ≡ f
found_there xs f h = (bytes_eq-Decides (get_or xs (place_in xs f) []) f).0 (passes_at (λ x. bytes_eq x f) xs [] h)

pub not_past : (xs : List (List ℕ)) (f : List ℕ) (i : ℕ) → get_or xs i [] ≡ f → place_in xs f ≤ i
not_past xs f i e =
    ⊎_elim (λ lt. absurd (false≢true (sym (missed_before (λ x. bytes_eq x f) xs i [] lt) ∙ (bytes_eq-Decides (get_or xs i []) f).1 e))) (λ ge. ge) (cases_lt i (place_in xs f))

same_option : (o : Option ℕ) (i : ℕ) → option_eq eqb o (Some i) ≡ true → o ≡ Some i
same_option None i e = absurd (false≢true e)
same_option (Some p) i e = ap (λ (n : ℕ). Some n) (eqb-true p i e)

first_here : (heads : List (List ℕ)) (f : List ℕ) (i : ℕ) → option_eq eqb (position_of heads f) (Some i) ≡ true → place_in heads f ≡ i
first_here heads f i e = (found_at (λ x. bytes_eq x f) heads i (same_option (position_of heads f) i e)).0

-- in accepted names each stands where it is first found
good_from : (ns heads : List (List ℕ)) (i : ℕ) (fs : List (List ℕ)) → first_not (good_name ns heads) i fs ≡ None → (k : ℕ) → k < length fs → place_in heads (get_or fs k []) ≡ i + k
good_from ns heads i [] e k h = absurd (let z : ⊥ = omega arith in z)
good_from ns heads i (f ∷ fs) e zero h =
    ⊎_elim (λ t. let s = first_here heads f i (and_parts (known ns f) (option_eq eqb (position_of heads f) (Some i)) t).1 in let z : place_in heads f ≡ i + 0 = omega arith in z)
    (λ n. absurd (some_none (sym (cond-false (good_name ns heads i f) _ _ n) ∙ e))) (cases_Bool (good_name ns heads i f))
good_from ns heads i (f ∷ fs) e (suc k) h =
    ⊎_elim (λ t. let s = good_from ns heads (i + 1) fs (sym (cond-true (good_name ns heads i f) _ _ t) ∙ e) k (omega arith) in let z : place_in heads (get_or fs k []) ≡ i + suc k = omega arith in z)
    (λ n. absurd (some_none (sym (cond-false (good_name ns heads i f) _ _ n) ∙ e))) (cases_Bool (good_name ns heads i f))

pub names_once : (ns heads : List (List ℕ)) → first_not (good_name ns heads) 0 heads ≡ None → (k : ℕ) → k < length heads → place_in heads (get_or heads k []) ≡ k
names_once ns heads e k h = let s = good_from ns heads 0 heads e k h in omega arith

abbrev moved : List ℕ → List (List ℕ) → List (List ℕ)
moved places fs = map (λ k. get_or fs k []) places

module _ (n : ℕ) (places : List ℕ) (r : Rearrangement n places) (heads fs : List (List ℕ)) (lh : length heads ≡ n) (lf : length fs ≡ n) (once : (k : ℕ) → k < length heads → place_in heads (get_or heads k []) ≡ k) (name : List ℕ) where
  heads' : List (List ℕ)
  heads' = moved places heads

  at_moved : (gs : List (List ℕ)) (q : ℕ) → q < n → get_or (moved places gs) q [] ≡ get_or gs (get_or places q 0) []
  at_moved gs q h = let l = r.0 in get_or-map (λ k. get_or gs k []) places q 0 [] (omega arith)

  len_moved : (gs : List (List ℕ)) → length (moved places gs) ≡ n
  len_moved gs = length-map places (λ k. get_or gs k []) ∙ r.0

  inside : (q : ℕ) → q < n → get_or places q 0 < n
  inside q h = let l = r.0 in r.1 q 0 (omega arith)

  -- where the moved names have it, there the places say where it stood
  same_place : place_in (moved places heads) name < n → place_in heads name ≡ get_or places (place_in (moved places heads) name) 0
  same_place h =
      let q = place_in (moved places heads) name in
      let l = len_moved heads in
      let w = sym (at_moved heads q h) ∙ found_there (moved places heads) name (omega arith) in
      sym (ap (place_in heads) w) ∙ once (get_or places q 0) (let s = inside q h in omega arith)

  -- what the names have, the moved names have
  kept : place_in heads name < n → place_in (moved places heads) name < n
  kept h =
      let p = place_in heads name in
      let i = at_from_Contains places p (r.2 p h) in
      let l = len_moved heads in
      let lp = r.0 in
      let lt : i.0 < n = omega (arith, i.1) in
      let e = at_moved heads i.0 lt ∙ ap (λ (k : ℕ). get_or heads k []) (i.2 0) ∙ found_there heads name (omega arith) in
      let b = not_past (moved places heads) name i.0 e in
      omega arith

  pub same_value : value_of (get_or (moved places fs) (place_in (moved places heads) name) []) ≡ value_of (get_or fs (place_in heads name) [])
  same_value =
      let q = place_in (moved places heads) name in
      let l = len_moved fs in
      ap value_of (⊎_elim (λ h. at_moved fs q h ∙ ap (λ (k : ℕ). get_or fs k []) (sym (same_place h)))
      (λ h. get_or_past (moved places fs) q [] (omega arith) ∙ sym (get_or_past fs (place_in heads name) [] (⊎_elim (λ k. absurd (let b = kept k in let z : ⊥ = omega arith in z)) (λ k. let z : length fs ≤ place_in heads name = omega arith in z) (cases_lt (place_in heads name) n))))
      (cases_lt q n))

pub same_row : (n : ℕ) (places : List ℕ) → Rearrangement n places → (ns heads fs : List (List ℕ)) → length heads ≡ n → length fs ≡ n → first_not (good_name ns heads) 0 heads ≡ None → row_under ns (map (λ k. get_or heads k []) places) (map (λ k. get_or fs k []) places) ≡ row_under ns heads fs
same_row n places r ns heads fs lh lf good =
    λ i. filled (map (λ name. same_value n places r heads fs lh lf (names_once ns heads good) name i) ns)
