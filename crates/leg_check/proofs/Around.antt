-- The piece of a given half-width that a half-step lies in.
use Rattle.std.proofs.Common.{◌≡◌, ℕ, ◌+◌, ◌-◌, ◌*◌, ◌/◌, ◌%◌, ◌^◌, ◌<◌, ◌≤◌, sym, ap, ◌∙◌, mul-le-mul_right, mod-lt, mul_assoc, mul_comm, add-mul, lt_of_mul-lt-mul_right, mul-le-mul_left, mul-one, mul-add, div-mul-le_self, arith, pow_pos, pow_mono, pow-add}
use native.Mathlib.Nat.{div-add-mod, div-eq_of_lt-le}
use native.Mathlib.Decide.{dec_le}
use lib.Arith.{digits_mod}
use Rattle.leg.specs.Ranges.{IsPiece}
use Rattle.leg_check.specs.Relation.{Contains}

-- The middle of the piece of half-width r that the half-step x lies in.
abbrev pub around : ℕ → ℕ → ℕ
around r x = x / (2 * r) * (2 * r) + r

-- It is the only piece of its half-width with x inside.
pub around_is : (m r x : ℕ) → IsPiece m r → m < x + r → x < m + r → around r x ≡ m
around_is m r x piece above below =
    let d = 2 * r in
    let q = m / d in
    let whole : q * d + r ≡ m = omega (arith, div-add-mod m d, piece.2, mul_comm d q) in
    let same : x / d ≡ q = div-eq_of_lt-le d (omega arith) (omega (arith, add-mul q 1 d)) in
    ap (λ k. k * d + r) same ∙ whole

-- It is a piece.
pub around_piece : (i x : ℕ) → i ≤ 11 → x < 4096 → IsPiece (around (2 ^ i) x) (2 ^ i)
around_piece i x low on =
    let r = 2 ^ i in
    let d = 2 * r in
    let some = pow_pos i in
    let parts : 2048 ≡ 2 ^ (11 - i) * r = ap (λ k. 2 ^ k) (let whole : 11 ≡ 11 - i + i = omega arith in whole) ∙ pow-add 2 (11 - i) i in
    let twice : 4096 ≡ 2 ^ (11 - i) * d = omega (arith, parts, mul-add (2 ^ (11 - i)) r r) in
    let below : x / d < 2 ^ (11 - i) = lt_of_mul-lt-mul_right d (omega (arith, div-mul-le_self x d, twice)) in
    let next : (x / d + 1) * d ≤ 2 ^ (11 - i) * d = mul-le-mul_right d (omega arith) in (
      some,
      ap (λ k. k % r) (let even : 2048 ≡ 2 ^ (11 - i) * r + 0 = omega (arith, parts) in even) ∙ digits_mod (2 ^ (11 - i)) some,
      digits_mod (x / d) (omega arith),
      omega (arith, next, twice, add-mul (x / d) 1 d),
    )

-- A level is told by its half-width.
pub level_below : (n i : ℕ) → 2 ^ n < 2 ^ i → n < i
level_below n i h = elim (dec_le i n) [ yes k ↦ absurd (omega (arith, pow_mono k)) | no k ↦ omega arith ]

-- It contains each smaller piece whose middle lies in it.
pub around_contains : (n i m : ℕ) → IsPiece m (2 ^ n) → n < i → Contains (around (2 ^ i) m) (2 ^ i) m (2 ^ n)
around_contains n i m piece low =
    let u = 2 ^ n in
    let h = 2 ^ (i - n) in
    let wide : 2 ^ i ≡ u * h = ap (λ k. 2 ^ k) (let whole : i ≡ n + (i - n) = omega arith in whole) ∙ pow-add 2 n (i - n) in
    let E = h + h in
    let D = 2 * 2 ^ i in
    let q = m / (2 * u) in
    let o = q + q + 1 in
    let Q = o / E in
    let e = o % E in
    let D-is : D ≡ u * E = omega (arith, wide, mul-add u h h) in
    let m-is : m ≡ u * o = omega (arith, div-add-mod m (2 * u), piece.2, mul_assoc 2 u q, mul-add u (q + q) 1, mul-add u q q, mul-one u) in
    let o_is : E * Q + e ≡ o = div-add-mod o E in
    let small : e < E = mod-lt o (omega (arith, pow_pos (i - n))) in
    let odd : 1 ≤ e = omega (arith, o_is, add-mul h h Q) in
    let m-by : m ≡ D * Q + u * e = m-is ∙ ap (λ k. u * k) (sym o_is) ∙ mul-add u (E * Q) e ∙ ap (λ k. k + u * e) (sym (mul_assoc u E Q) ∙ ap (λ k. k * Q) (sym D-is)) in
    let least : u * 1 ≤ u * e = mul-le-mul_left u odd in
    let most : u * (e + 1) ≤ u * E = mul-le-mul_left u (omega arith) in
    let some = pow_pos n in
    let same : m / D ≡ Q = div-eq_of_lt-le D (omega (arith, m-by, mul_comm D Q)) (omega (arith, m-by, mul_comm D Q, add-mul Q 1 D, most, D-is, mul-add u e 1, mul-one u)) in
    let centre : around (2 ^ i) m ≡ D * Q + 2 ^ i = omega (arith, ap (λ k. k * D) same, mul_comm D Q) in
    (omega (arith, centre, m-by, least, mul-one u), omega (arith, centre, m-by, most, D-is, mul-add u e 1, mul-one u))
