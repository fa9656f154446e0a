-- The divisors of 2048 are the powers of two, and the halves of a piece are pieces.
use Rattle.std.proofs.Common.{◌≡◌, ℕ, zero, suc, ◌+◌, ◌-◌, ◌*◌, ◌/◌, ◌%◌, ◌^◌, ◌<◌, ◌≤◌, ◌⊎◌, sym, ap, ◌∙◌, inl, inr, mul_comm, add-mul, mul-le-mul_left, mul-zero, mul-suc, mul-add, arith, pow_mono}
use native.Mathlib.Nat.{div-add-mod, two-pow-succ, lt_of_mul-lt-mul_left}
use native.Mathlib.Decide.{dec_lt}
use lib.Arith.{digits_mod}
use Rattle.leg.specs.Ranges.{IsPiece}

-- An odd number that divides a power of two is 1.
odd_divisor : (n a k : ℕ) → (a + a + 1) * k ≡ 2 ^ n → a ≡ 0
odd_divisor zero a zero e = omega (arith, mul-zero (a + a + 1))
odd_divisor zero a (suc j) e = omega (arith, mul-suc (a + a + 1) j)
odd_divisor (suc n) a k e =
    let spread : (a + a + 1) * k ≡ a * k + a * k + k = omega (arith, add-mul (a + a) 1 k, add-mul a a k) in
    let even : k ≡ k / 2 + k / 2 = omega (arith, two-pow-succ n) in
    let twice : (a + a + 1) * k ≡ (a + a + 1) * (k / 2) + (a + a + 1) * (k / 2) = ap (λ x. (a + a + 1) * x) even ∙ mul-add (a + a + 1) (k / 2) (k / 2) in
    odd_divisor n a (k / 2) (omega (arith, two-pow-succ n))

-- A divisor of a power of two is 1 or even.
divisor_halves : (n d k : ℕ) → d * k ≡ 2 ^ n → (d ≡ 1) ⊎ (d ≡ d / 2 + d / 2)
divisor_halves n d k e =
    elim (dec_lt 0 (d % 2)) [
      | yes odd ↦
          let parts : d ≡ d / 2 + d / 2 + 1 = omega arith in
          let none : d / 2 ≡ 0 = odd_divisor n (d / 2) k (ap (λ x. x * k) (sym parts) ∙ e) in
          inl (omega arith)
      | no even ↦ inr (omega arith)
    ]

-- A divisor of a power of two is a power of two.
divisor_power : (n d k : ℕ) → d * k ≡ 2 ^ n → (j : ℕ) × (j ≤ n) × (d ≡ 2 ^ j)
divisor_power zero d k e = (0, omega arith, one_of k e)
  where
    one_of : (k : ℕ) → d * k ≡ 1 → d ≡ 1
    one_of zero e = omega (arith, mul-zero d)
    one_of (suc j) e =
        elim (divisor_halves 0 d (suc j) e) [ inl one ↦ one | inr even ↦ omega (arith, ap (λ x. x * suc j) even, add-mul (d / 2) (d / 2) (suc j)) ]
divisor_power (suc n) d k e =
    elim (divisor_halves (suc n) d k e) [
      | inl one ↦ (0, omega arith, one)
      | inr even ↦
          let below = divisor_power n (d / 2) k (omega (arith, ap (λ x. x * k) even, add-mul (d / 2) (d / 2) k, two-pow-succ n)) in
          (suc below.0, omega (arith, below.1), omega (arith, below.2, two-pow-succ below.0))
    ]

module _ (r : ℕ) (divides : 2048 % r ≡ 0) where
  parts_of_leg : r * (2048 / r) ≡ 2048
  parts_of_leg = omega (arith, div-add-mod 2048 r)

  -- The level of a half-width.
  pub level_of : (n : ℕ) × (n ≤ 11) × (r ≡ 2 ^ n)
  level_of = divisor_power 11 r (2048 / r) parts_of_leg

  -- No half-width is above 2048.
  pub width_limit : r ≤ 2048
  width_limit = omega (arith, level_of.2, pow_mono level_of.1)

  -- A half-width above 1 is even.
  pub even_width : 1 < r → r ≡ r / 2 + r / 2
  even_width wide = elim (divisor_halves 11 r (2048 / r) parts_of_leg) [ inl one ↦ omega arith | inr even ↦ even ]

module _ (m r : ℕ) (piece : IsPiece m r) (wide : 1 < r) where
  twice_h : r ≡ r / 2 + r / 2
  twice_h = even_width r piece.1 wide

  -- The middle, in parts of a quarter of the piece's width.
  pub in_quarters : m ≡ 4 * (r / 2 * (m / (2 * r))) + 2 * (r / 2)
  in_quarters =
      let q = m / (2 * r) in
      let e : 2 * r * q ≡ (r / 2 + r / 2 + (r / 2 + r / 2)) * q = ap (λ x. x * q) (omega (arith, twice_h)) in
      omega (arith, div-add-mod m (2 * r), piece.2, e, twice_h, add-mul (r / 2 + r / 2) (r / 2 + r / 2) q, add-mul (r / 2) (r / 2) q)

  -- 2048, in half-widths of a half.
  whole : 2048 ≡ 2 * (r / 2 * (2048 / r))
  whole =
      let e : r * (2048 / r) ≡ (r / 2 + r / 2) * (2048 / r) = ap (λ x. x * (2048 / r)) twice_h in
      omega (arith, div-add-mod 2048 r, piece.1, e, add-mul (r / 2) (r / 2) (2048 / r))

  divides_half : 2048 % (r / 2) ≡ 0
  divides_half =
      let h = r / 2 in
      let k = 2048 / r in
      let e : 2048 ≡ (k + k) * h + 0 = omega (arith, whole, add-mul k k h) in
      ap (λ x. x % h) e ∙ digits_mod (k + k) (omega (arith, twice_h))

  pub first_half : IsPiece (m - r / 2) (r / 2)
  first_half =
      let h = r / 2 in
      let q = m / (2 * r) in
      let e : m - h ≡ (q + q) * (2 * h) + h = omega (arith, in_quarters, add-mul q q (2 * h), mul-add q h h, mul_comm q (2 * h)) in
      (omega (arith, twice_h), divides_half, ap (λ x. x % (2 * h)) e ∙ digits_mod (q + q) (omega (arith, twice_h)), omega (arith, piece.3))

  pub second_half : IsPiece (m + r / 2) (r / 2)
  second_half =
      let h = r / 2 in
      let q = m / (2 * r) in
      let k = 2048 / r in
      let e : m + h ≡ (q + q + 1) * (2 * h) + h = omega (arith, in_quarters, add-mul (q + q) 1 (2 * h), add-mul q q (2 * h), mul-add q h h, mul_comm q (2 * h)) in
      let below : q < k = lt_of_mul-lt-mul_left h (omega (arith, in_quarters, whole, piece.3)) in
      (omega (arith, twice_h), divides_half, ap (λ x. x % (2 * h)) e ∙ digits_mod (q + q + 1) (omega (arith, twice_h)), omega (arith, in_quarters, whole, mul-le-mul_left h below, mul-suc h q, piece.0))
