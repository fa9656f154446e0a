-- A count over the pieces of a leg counts each piece once.
use Rattle.std.proofs.Common.{◌≡◌, ℕ, zero, suc, ◌+◌, ◌-◌, ◌*◌, ◌/◌, ◌%◌, ◌^◌, ◌<◌, ◌≤◌, false, eqb, sym, ap, ◌∙◌, subst, add-zero, mul_assoc, add-mul, div-add-mod', arith, pow_pos, pow-add}
use native.Mathlib.Nat.{two-pow-succ}
use native.Mathlib.Decide.{dec_le}
use lib.Arith.{digits_mod}
use lib.Pow.{pow-lt}
use Rattle.std.proofs.lemmas.Bool.{and_from, and_left, and_right, eq-eqb, ne_eqb}
use Rattle.leg.specs.Ranges.{IsPiece}
use Rattle.leg.proofs.Halving.{level_of}
use Rattle.leg.proofs.Shaping.{piece_span}
use Rattle.leg_check.specs.Relation.{passing, only}
use Rattle.leg_check.proofs.Around.{around_is}
use Rattle.leg_check.proofs.Relations.{first_piece, second_piece, none_pass, one_if}

-- a piece is not about the middle of a larger one, which is an even multiple of its half-width
not_middle : (i n m : ℕ) → i ≤ n → IsPiece m (2 ^ suc n) → IsPiece m (2 ^ i) → ⊥
not_middle i n m low large small =
    let d = 2 * 2 ^ i in
    let k = 2 ^ (n - i) in
    let q = m / (2 * 2 ^ suc n) in
    let levels : suc n ≡ n - i + suc i = omega arith in
    let twice : 2 ^ suc i ≡ d = omega (arith, two-pow-succ i) in
    let wide : 2 ^ suc n ≡ k * d = ap (λ (x : ℕ). 2 ^ x) levels ∙ pow-add 2 (n - i) (suc i) ∙ ap (λ (x : ℕ). k * x) twice in
    let parts : q * (2 * 2 ^ suc n) + m % (2 * 2 ^ suc n) ≡ m = div-add-mod' m (2 * 2 ^ suc n) in
    let spread : (q + q + 1) * 2 ^ suc n ≡ q * 2 ^ suc n + q * 2 ^ suc n + 1 * 2 ^ suc n = add-mul (q + q) 1 (2 ^ suc n) ∙ ap (λ (x : ℕ). x + 1 * 2 ^ suc n) (add-mul q q (2 ^ suc n)) in
    let turned : q * (2 * 2 ^ suc n) ≡ q * 2 ^ suc n + q * 2 ^ suc n = doubled q (2 ^ suc n) in
    let odd : m ≡ (q + q + 1) * 2 ^ suc n = omega (arith, large.2) in
    let even : m ≡ (q + q + 1) * k * d + 0 = odd ∙ ap (λ (x : ℕ). (q + q + 1) * x) wide ∙ sym (mul_assoc (q + q + 1) k d) ∙ sym (add-zero ((q + q + 1) * k * d)) in
    let none : m % d ≡ 0 = ap (λ (x : ℕ). x % d) even ∙ digits_mod ((q + q + 1) * k) (omega (arith, pow_pos i)) in
    omega (arith, none, small.2, pow_pos i)
  where
    doubled : (a b : ℕ) → a * (2 * b) ≡ a * b + a * b
    doubled a b = omega arith

module _ (i x : ℕ) (piece : IsPiece x (2 ^ i)) where
  one_passes : (n m : ℕ) → i ≤ n → IsPiece m (2 ^ n) → m < x + 2 ^ n → x < m + 2 ^ n → passing (only x (2 ^ i)) n m ≡ 1
  one_passes zero m low whole from to =
      let finest : 0 ≡ i = omega arith in
      let same : m ≡ x = omega arith in
      ap one_if (and_from (eqb m x) (eqb 1 (2 ^ i)) (eq-eqb m x same) (eq-eqb 1 (2 ^ i) (ap (λ (k : ℕ). 2 ^ k) finest)))
  one_passes (suc n) m low whole from to =
      let twice = two-pow-succ n in
      let enough = (piece_span m (2 ^ suc n) whole).0 in
      elim (dec_le i n) [
        | yes below ↦
            let top : one_if (only x (2 ^ i) m (2 ^ suc n)) ≡ 0 = ap one_if (and_right (eqb m x) (eqb (2 ^ suc n) (2 ^ i)) (ne_eqb (2 ^ suc n) (2 ^ i) (λ e. absurd (omega (arith, pow-lt {i = i} {j = suc n} (omega arith)))))) in
            let apart : x ≡ m → ⊥ = λ e. not_middle i n m below whole (subst (λ (k : ℕ). IsPiece k (2 ^ i)) e piece) in
            elim (dec_le m x) [
              | yes after ↦
                  let none = none_pass (only x (2 ^ i)) n (m - 2 ^ n) (omega arith) (λ j y lower part. and_left (eqb y x) (eqb (2 ^ j) (2 ^ i)) (ne_eqb y x (λ e. absurd (omega (arith, pow_pos j))))) in
                  let later : m < x = strictly after apart in
                  let one = one_passes n (m + 2 ^ n) below (second_piece n m whole) (omega arith) (omega arith) in
                  omega (arith, top, none, one)
              | no before ↦
                  let none = none_pass (only x (2 ^ i)) n (m + 2 ^ n) (omega arith) (λ j y lower part. and_left (eqb y x) (eqb (2 ^ j) (2 ^ i)) (ne_eqb y x (λ e. absurd (omega (arith, pow_pos j))))) in
                  let one = one_passes n (m - 2 ^ n) below (first_piece n m whole) (omega arith) (omega arith) in
                  omega (arith, top, none, one)
            ]
        | no above ↦
            let level : suc n ≡ i = omega arith in
            let wide : 2 ^ suc n ≡ 2 ^ i = ap (λ (k : ℕ). 2 ^ k) level in
            let own : IsPiece x (2 ^ suc n) = subst (IsPiece x) (sym wide) piece in
            let same : m ≡ x = sym (around_is m (2 ^ suc n) x whole from to) ∙ around_is x (2 ^ suc n) x own (omega (arith, pow_pos (suc n))) (omega (arith, pow_pos (suc n))) in
            let top : one_if (only x (2 ^ i) m (2 ^ suc n)) ≡ 1 = ap one_if (and_from (eqb m x) (eqb (2 ^ suc n) (2 ^ i)) (eq-eqb m x same) (eq-eqb (2 ^ suc n) (2 ^ i) wide)) in
            let smaller : (j y : ℕ) → j ≤ n → only x (2 ^ i) y (2 ^ j) ≡ false =
            λ j y lower. and_right (eqb y x) (eqb (2 ^ j) (2 ^ i)) (ne_eqb (2 ^ j) (2 ^ i) (λ e. absurd (omega (arith, wide, pow-lt {i = j} {j = suc n} (omega arith))))) in
            let first = none_pass (only x (2 ^ i)) n (m - 2 ^ n) (omega arith) (λ j y lower part. smaller j y lower) in
            let second = none_pass (only x (2 ^ i)) n (m + 2 ^ n) (omega arith) (λ j y lower part. smaller j y lower) in
            omega (arith, top, first, second)
      ]
    where
      strictly : {a b : ℕ} → a ≤ b → (b ≡ a → ⊥) → a < b
      strictly {a} {b} h ne = elim (dec_le b a) [ yes k ↦ absurd (ne (omega arith)) | no k ↦ omega arith ]

pub counted_once : (x s : ℕ) → IsPiece x s → passing (only x s) 11 2048 ≡ 1
counted_once x s piece =
    let level = level_of s piece.1 in
    let own : IsPiece x (2 ^ level.0) = subst (IsPiece x) level.2 piece in
    subst (λ (r : ℕ). passing (only x r) 11 2048 ≡ 1) (sym level.2)
    (one_passes level.0 x own 11 2048 level.1 (omega arith) (omega (arith, pow_pos level.0, (piece_span x (2 ^ level.0) own).0)) (omega (arith, piece.3)))
