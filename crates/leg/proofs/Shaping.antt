-- The invariant of a piece in the words of its making, and the places of a piece and of its halves.
use Rattle.std.proofs.Common.{◌≡◌, ℕ, ◌+◌, ◌-◌, ◌*◌, ◌/◌, ◌%◌, ◌^◌, ◌<◌, ◌≤◌, true, eqb, leb, ◌⊎◌, ℤ, pos, ◌+ℤ◌, ◌-ℤ◌, ◌*ℤ◌, nat_abs, ◌≤ℤ◌, ◌<ℤ◌, sym, ap, ◌∙◌, subst, subst₂, inl, inr, ⊎_elim, add-zero, mul-le-mul_right, mul_assoc, mul_comm, add-mul, div-add-mod', arith, pow_pos, pow_mono, pow-add}
use lib.Arith.{digits_mod}
use lib.Signed.{le_z}
use borrow.Author.Differences.{ints}
use Rattle.std.proofs.lemmas.Int.{by_lt_z}
use Rattle.std.proofs.lemmas.Bool.{cases_lt, and_parts, and_from, eqb-true, eq-eqb, le-leb}
use Rattle.integer.proofs.Order.{≤ℤ_trans, weaker, product≥0, times_right≤}
use Rattle.leg.specs.Ranges.{IsPiece}
use Rattle.leg.specs.Making.{is_between, lies_in_bounds, makes_piece, Shaped}
use Rattle.leg.specs.Places.{OnLeg, OnPiece}
use Rattle.leg.proofs.Halving.{level_of, even_width}

-- ---- the invariant in words

-- the middle, as an odd multiple of the half-width
odd_multiple : (m r : ℕ) → m % (2 * r) ≡ r → m ≡ (2 * (m / (2 * r)) + 1) * r
odd_multiple m r odd =
    let j = m / (2 * r) in
    let parts : j * (2 * r) + m % (2 * r) ≡ m = div-add-mod' m (2 * r) in
    let spread : (2 * j + 1) * r ≡ 2 * j * r + 1 * r = add-mul (2 * j) 1 r in
    let turned : j * (2 * r) ≡ 2 * j * r = sym (mul_assoc j 2 r) ∙ ap (λ (x : ℕ). x * r) (mul_comm j 2) in
    omega arith

shaped : (m r : ℕ) → IsPiece m r → Shaped (pos m) (pos r)
shaped m r piece =
    let level = level_of r piece.1 in
    let k = level.0 in
    let j = m / (2 * r) in
    let power : r ≡ 2 ^ k = level.2 in
    let whole : m ≡ (2 * j + 1) * 2 ^ k = odd_multiple m r piece.2 ∙ ap (λ (x : ℕ). (2 * j + 1) * x) power in
    (k, j, level.1, ap pos power, ap pos whole, subst (λ (x : ℕ). x < 4096) whole piece.3)

power_divides : (k : ℕ) → k ≤ 11 → 2048 % 2 ^ k ≡ 0
power_divides k h =
    let levels : 11 ≡ 11 - k + k = omega arith in
    let e : 2048 ≡ 2 ^ (11 - k) * 2 ^ k + 0 = ap (λ (x : ℕ). 2 ^ x) levels ∙ pow-add 2 (11 - k) k ∙ sym (add-zero (2 ^ (11 - k) * 2 ^ k)) in
    ap (λ (x : ℕ). x % 2 ^ k) e ∙ digits_mod (2 ^ (11 - k)) (pow_pos k)

-- ---- the tests of a piece's making, and the invariant

pub record Passed (m r : ℤ) : Type 0 where
  pub middle : pos (nat_abs m) ≡ m
  pub half : pos (nat_abs r) ≡ r
  pub piece : IsPiece (nat_abs m) (nat_abs r)

pub passed : (m r : ℤ) → lies_in_bounds m r ≡ true → makes_piece (nat_abs m) (nat_abs r) ≡ true → Passed m r
passed m r bounds test =
    let both = and_parts (is_between (pos 1) r (pos 2048)) (is_between (pos 1) m (pos 4095)) bounds in
    let rs = and_parts (le_z (pos 1) r) (le_z r (pos 2048)) both.0 in
    let ms = and_parts (le_z (pos 1) m) (le_z m (pos 4095)) both.1 in
    let parts = and_parts (eqb (2048 % nat_abs r) 0) (eqb (nat_abs m % (2 * nat_abs r)) (nat_abs r)) test in
    record {
      middle = omega (arith, ints);
      half = omega (arith, ints);
      piece = (omega (arith, ints), eqb-true (2048 % nat_abs r) 0 parts.0, eqb-true (nat_abs m % (2 * nat_abs r)) (nat_abs r) parts.1, omega (arith, ints));
    }

pub passed_shaped : (m r : ℤ) → Passed m r → Shaped m r
passed_shaped m r p = subst₂ Shaped p.middle p.half (shaped (nat_abs m) (nat_abs r) p.piece)

pub record Passes (m r : ℤ) : Type 0 where
  pub bounds : lies_in_bounds m r ≡ true
  pub test : makes_piece (nat_abs m) (nat_abs r) ≡ true

pub shaped_passes : (m r : ℤ) → Shaped m r → Passes m r
shaped_passes m r s = subst₂ Passes (sym s.4) (sym s.3) (record {
  bounds = and_from (is_between (pos 1) (pos (2 ^ s.0)) (pos 2048)) (is_between (pos 1) (pos ((2 * s.1 + 1) * 2 ^ s.0)) (pos 4095)) (inside (2 ^ s.0) 2048 (pow_pos s.0) (pow_mono s.2)) (inside ((2 * s.1 + 1) * 2 ^ s.0) 4095 some below);
  test = and_from _ _ (eq-eqb (2048 % 2 ^ s.0) 0 (power_divides s.0 s.2)) (eq-eqb ((2 * s.1 + 1) * 2 ^ s.0 % (2 * 2 ^ s.0)) (2 ^ s.0) odd);
})
  where
    some : 0 < (2 * s.1 + 1) * 2 ^ s.0
    some = omega (arith, pow_pos s.0, add-mul (2 * s.1) 1 (2 ^ s.0))

    below : (2 * s.1 + 1) * 2 ^ s.0 ≤ 4095
    below = omega (arith, s.5)

    odd : (2 * s.1 + 1) * 2 ^ s.0 % (2 * 2 ^ s.0) ≡ 2 ^ s.0
    odd =
        let p = 2 ^ s.0 in
        let turned : s.1 * (2 * p) ≡ 2 * s.1 * p = sym (mul_assoc s.1 2 p) ∙ ap (λ (x : ℕ). x * p) (mul_comm s.1 2) in
        let e : (2 * s.1 + 1) * p ≡ s.1 * (2 * p) + p = omega (arith, add-mul (2 * s.1) 1 p) in
        ap (λ (x : ℕ). x % (2 * p)) e ∙ digits_mod s.1 (omega (arith, pow_pos s.0))

    inside : (x y : ℕ) → 0 < x → x ≤ y → is_between (pos 1) (pos x) (pos y) ≡ true
    inside x y h l = and_from (leb 1 x) (leb x y) (le-leb 1 x (omega arith)) (le-leb x y l)

-- ---- the span of a piece

-- with d = 2 r: m = k d + r below t d = 4096 gives (k + 1) d ≤ t d
before_end : (m r d k t : ℕ) → d ≡ r + r → k * d + r ≡ m → t * d ≡ 4096 → m < 4096 → m + r ≤ 4096
before_end m r d k t twice middle whole below =
    ⊎_elim
    (λ k<t. let up : (k + 1) * d ≤ t * d = mul-le-mul_right d (one_more k<t) in let split : (k + 1) * d ≡ k * d + 1 * d = add-mul k 1 d in omega arith)
    (λ t≤k. let up : t * d ≤ k * d = mul-le-mul_right d t≤k in absurd (omega arith))
    (cases_lt k t)
  where
    one_more : {a b : ℕ} → a < b → a + 1 ≤ b
    one_more {a} {b} h = omega arith

-- a piece begins at the leg's start or later, and ends at its end or earlier
pub piece_span : (m r : ℕ) → IsPiece m r → (r ≤ m) × (m + r ≤ 4096)
piece_span m r piece =
    let parts : m / (2 * r) * (2 * r) + m % (2 * r) ≡ m = div-add-mod' m (2 * r) in
    let middle : m / (2 * r) * (2 * r) + r ≡ m = ap (λ (x : ℕ). m / (2 * r) * (2 * r) + x) (sym piece.2) ∙ parts in
    let shares : 2048 / r * r + 2048 % r ≡ 2048 = div-add-mod' 2048 r in
    let turned : 2048 / r * (2 * r) ≡ 2 * (2048 / r * r) = ap (λ (x : ℕ). 2048 / r * x) (mul_comm 2 r) ∙ sym (mul_assoc (2048 / r) r 2) ∙ mul_comm (2048 / r * r) 2 in
    let whole : 2048 / r * (2 * r) ≡ 4096 = omega (arith, piece.1) in
    (omega arith, before_end m r (2 * r) (m / (2 * r)) (2048 / r) (omega arith) middle whole piece.3)

pub piece_on_leg : (m r : ℕ) → IsPiece m r → (p q : ℤ) → OnPiece (pos m) (pos r) p q → OnLeg p q
piece_on_leg m r piece p q at = record {
  parts = at.parts;
  from = ≤ℤ_trans (product≥0 begins (weaker at.parts)) at.from;
  to = ≤ℤ_trans at.to (times_right≤ (weaker at.parts) ends);
}
  where
    begins : pos 0 ≤ℤ (pos m -ℤ pos r)
    begins = let h = (piece_span m r piece).0 in omega (arith, ints)

    ends : (pos m +ℤ pos r) ≤ℤ pos 4096
    ends = let h = (piece_span m r piece).1 in omega (arith, ints)

-- ---- the places of the halves: with r = 2 h they span m − r to m, and m to m + r

module _ (m r : ℕ) (piece : IsPiece m r) (wide : 1 < r) (p q : ℤ) where
  twice : r ≡ r / 2 + r / 2
  twice = even_width r piece.1 wide

  some : pos 1 ≤ℤ pos (r / 2)
  some = let e = twice in omega (arith, ints)

  first_from : pos (m - r / 2) -ℤ pos (r / 2) ≡ pos m -ℤ pos r
  first_from = let e = twice in let s = (piece_span m r piece).0 in omega (arith, ints)

  first_to : pos (m - r / 2) +ℤ pos (r / 2) ≡ pos m
  first_to = let e = twice in let s = (piece_span m r piece).0 in omega (arith, ints)

  second_from : pos (m + r / 2) -ℤ pos (r / 2) ≡ pos m
  second_from = omega (arith, ints)

  second_to : pos (m + r / 2) +ℤ pos (r / 2) ≡ pos m +ℤ pos r
  second_to = let e = twice in omega (arith, ints)

  pub covered : OnPiece (pos m) (pos r) p q → OnPiece (pos (m - r / 2)) (pos (r / 2)) p q ⊎ OnPiece (pos (m + r / 2)) (pos (r / 2)) p q
  covered at =
      by_lt_z p (pos m *ℤ q)
      (λ before. inl (record {
        wide = some;
        parts = at.parts;
        from = subst (λ (x : ℤ). (x *ℤ q) ≤ℤ p) (sym first_from) at.from;
        to = subst (λ (x : ℤ). p ≤ℤ (x *ℤ q)) (sym first_to) (less before);
      }))
      (λ after. inr (record {
        wide = some;
        parts = at.parts;
        from = subst (λ (x : ℤ). (x *ℤ q) ≤ℤ p) (sym second_from) after;
        to = subst (λ (x : ℤ). p ≤ℤ (x *ℤ q)) (sym second_to) at.to;
      }))
    where
      less : {a b : ℤ} → a <ℤ b → a ≤ℤ b
      less {a} {b} k = omega (arith, ints)

  pub from_first : OnPiece (pos (m - r / 2)) (pos (r / 2)) p q → OnPiece (pos m) (pos r) p q
  from_first at = record {
    wide = omega (arith, ints);
    parts = at.parts;
    from = subst (λ (x : ℤ). (x *ℤ q) ≤ℤ p) first_from at.from;
    to = ≤ℤ_trans (subst (λ (x : ℤ). p ≤ℤ (x *ℤ q)) first_to at.to) (times_right≤ (weaker at.parts) later);
  }
    where
      later : pos m ≤ℤ (pos m +ℤ pos r)
      later = omega (arith, ints)

  pub from_second : OnPiece (pos (m + r / 2)) (pos (r / 2)) p q → OnPiece (pos m) (pos r) p q
  from_second at = record {
    wide = omega (arith, ints);
    parts = at.parts;
    from = ≤ℤ_trans (times_right≤ (weaker at.parts) earlier) (subst (λ (x : ℤ). (x *ℤ q) ≤ℤ p) second_from at.from);
    to = subst (λ (x : ℤ). p ≤ℤ (x *ℤ q)) second_to at.to;
  }
    where
      earlier : (pos m -ℤ pos r) ≤ℤ pos m
      earlier = omega (arith, ints)
