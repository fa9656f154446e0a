-- A file's row fits where the file does.
use Rattle.std.proofs.Common.{◌≡◌, ℕ, zero, suc, ◌/◌, Bool, true, eqb, List, map, length, drop, refl, ap, ◌∙◌}
use Rattle.std.specs.List.{list_all}
use Rattle.std.specs.Simd.{first_chunks}
use Rattle.std.proofs.lemmas.Bool.{eqb-true, eq-eqb}
use Rattle.terrain.specs.Rows.{in_range, refusal_by, row_refusal, height_of, file_refusal, file_heights}
use Rattle.terrain.specs.Fitting.{both_pass}

length_of_chunks : (n : ℕ) (bytes : List ℕ) → length (map height_of (first_chunks 2 n bytes)) ≡ n
length_of_chunks zero bytes = refl
length_of_chunks (suc n) bytes = ap suc (length_of_chunks n (drop 2 bytes))

tests : (bytes : List ℕ) → file_refusal bytes ≡ 0 → (eqb (length bytes) 33282 ≡ true) × (list_all in_range (file_heights bytes) ≡ true)
tests bytes fit = both_pass (eqb (length bytes) 33282) (list_all in_range (file_heights bytes)) fit

pub file_length : (bytes : List ℕ) → file_refusal bytes ≡ 0 → length bytes ≡ 33282
file_length bytes fit = eqb-true (length bytes) 33282 (tests bytes fit).0

pub file_row_fits : (bytes : List ℕ) → file_refusal bytes ≡ 0 → row_refusal (file_heights bytes) ≡ 0
file_row_fits bytes fit =
    let long : length (file_heights bytes) ≡ 16641 = length_of_chunks (length bytes / 2) bytes ∙ ap (λ (n : ℕ). n / 2) (file_length bytes fit) in
    ap (λ (t : Bool). refusal_by t (list_all in_range (file_heights bytes))) (eq-eqb (length (file_heights bytes)) 16641 long)
    ∙ ap (λ (t : Bool). refusal_by true t) (tests bytes fit).1
