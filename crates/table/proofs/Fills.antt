-- A row that is filled place by place.
use Rattle.std.proofs.Common.{◌≡◌, ℕ, ◌+◌, ◌-◌, ◌<◌, ◌≤◌, ◌≢◌, cond, ltb, List, ◌++◌, map, length, get_or, set, take, replicate, ℤ, pos, sym, refl, ap, ◌∙◌, ⊎_elim, arith}
use Rattle.std.specs.List.{range_with_len}
use Rattle.std.proofs.lemmas.List.FromFn.{length-map-range_with_len, get_or-map-range_with_len}
use Rattle.std.proofs.lemmas.List.{length-map, get_or-map, length-take-le, get_or-take, get_or-set_other, get_or_append_left, get_or-append_right, get_or-replicate, length-append, length-replicate, ext_get_or}
use Rattle.std.proofs.lemmas.Bool.{cases_lt, cond-true, cond-false, lt-ltb, le-ltb}
use Rattle.table.specs.Reading.{filled}

pub above_set : (xs : List ℤ) (j : ℕ) (v : ℤ) → ((k : ℕ) → j ≤ k → get_or xs k (pos 0) ≡ pos 0) → (k : ℕ) → j + 1 ≤ k → get_or (set xs j v) k (pos 0) ≡ pos 0
above_set xs j v a k l = let ne : k ≢ j = omega arith in get_or-set_other xs j k v (pos 0) ne ∙ a k (omega arith)

pub filled_is : (vs row : List ℤ) → length vs ≤ 13 → length row ≡ 13 → ((k : ℕ) → k < length vs → get_or row k (pos 0) ≡ get_or vs k (pos 0)) → ((k : ℕ) → length vs ≤ k → k < 13 → get_or row k (pos 0) ≡ pos 0) → row ≡ filled vs
filled_is vs row h l b a =
    let zs = replicate (13 - length vs) (pos 0) in
    let lz = length-replicate (13 - length vs) (pos 0) in
    let la = length-append vs zs in
    ext_get_or (pos 0) row (vs ++ zs) (omega arith)
    (λ k s. ⊎_elim (λ lt. b k lt ∙ sym (get_or_append_left vs zs (pos 0) k lt))
    (λ ge. a k ge (omega arith) ∙ sym (get_or-append_right vs zs (length vs) k (pos 0) refl ge ∙ get_or-replicate (13 - length vs) (k - length vs) (pos 0) (pos 0) (omega arith))) (cases_lt k (length vs)))

-- a row of which the first columns are filled
pub filled_by : (g : ℕ → ℤ) (places : List ℕ) (count : ℕ) (row : List ℤ) → count ≤ 13 → length places ≡ 13 →
    row ≡ map (λ k. cond (ltb k count) (g (get_or places k 0)) (pos 0)) (range_with_len 0 13) → row ≡ filled (map g (take count places))
filled_by g places count row few all e =
    let h : ℕ → ℤ = λ k. cond (ltb k count) (g (get_or places k 0)) (pos 0) in
    let vs = take count places in
    let lt : length vs ≡ count = length-take-le count places (omega arith) in
    let lv = length-map vs g in
    let at : (k : ℕ) → k < 13 → get_or row k (pos 0) ≡ h k = λ k s. ap (λ (l : List ℤ). get_or l k (pos 0)) e ∙ get_or-map-range_with_len h 0 13 k k (pos 0) s (omega arith) in
    filled_is (map g vs) row (omega arith) (ap length e ∙ length-map-range_with_len h 0 13)
    (λ k s. let below : k < count = omega arith in
    at k (omega arith) ∙ cond-true (ltb k count) _ _ (lt-ltb k count below) ∙ sym (get_or-map g vs k 0 (pos 0) (omega arith) ∙ ap g (get_or-take count places k 0 below)))
    (λ k ge s. at k s ∙ cond-false (ltb k count) _ _ (le-ltb k count (omega arith)))
