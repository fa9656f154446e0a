-- The check names the first finest piece that no cleared piece contains, and takes the bounds of the exposed pieces up to it.
use Rattle.std.proofs.Common.{◌≡◌, ℕ, zero, suc, ◌+◌, ◌-◌, ◌*◌, ◌/◌, ◌^◌, ◌<◌, ◌≤◌, Bool, true, false, cond, not, ◌&&◌, ◌||◌, ltb, leb, pos, nat_abs, ◌≤ℤ◌, ◌<ℤ◌, Decides, sym, refl, ap, ◌∙◌, subst, inl, inr, arith, pow_pos}
use native.Mathlib.Nat.{two-pow-succ, mod-le}
use native.Mathlib.Decide.{dec_le}
use lib.Signed.{lt_z}
use lib.Pow.{pow-lt}
use Rattle.std.proofs.lemmas.Bool.{both_ways, or_left, or_right, or_from, and_from, and_parts, and_left, and_right, not-true, not_from_true, not_from_false, le-leb, lt-leb, leb-true, lt-ltb, ltb-true}
use Rattle.std.proofs.lemmas.Bool.Decides.{same_from_decides}
use Rattle.leg.specs.Ranges.{IsPiece}
use Rattle.field.specs.Meaning.{Meaning}
use Rattle.leg_check.specs.Halving.{clears, bounds_of, and_then, examine_of, verdict_of, check_of}
use Rattle.leg_check.specs.Promise.{Row, row_of}
use Rattle.leg_check.specs.Relation.{Contains, Covered, Exposed, First, passing, Tells, HowMany, Relation}
use Rattle.leg.specs.declared.shapes.Leg.{Leg}
use Rattle.leg_check.specs.declared.verdict.Walk.{Walk}
use Rattle.leg_check.specs.declared.verdict.Walk.TheVariants.{Cleared, Stopped}
use Rattle.leg.proofs.Halving.{level_of, first_half, second_half, in_quarters}
use Rattle.leg_check.proofs.Around.{around, around_is, around_piece, around_contains, level_below}
use Rattle.leg_check.proofs.Walks.{true_or_false, cleared_walk, finest_walk, halved_walk, few_bounds}
use Rattle.leg_check.proofs.Verdicts.{inside_check, walked_check, entered_verdict, near_verdict}
use Rattle.leg_check.proofs.Promises.{from_test, from_failed, not_both}

-- The halves of a piece by level.
module _ (n m : ℕ) (piece : IsPiece m (2 ^ suc n)) where
  pub half_width : 2 ^ suc n / 2 ≡ 2 ^ n
  half_width = omega (arith, two-pow-succ n)

  pub fits : 2 ^ suc n ≤ m
  fits = omega (arith, mod-le m (2 * 2 ^ suc n), piece.2)

  pub first_piece : IsPiece (m - 2 ^ n) (2 ^ n)
  first_piece = subst (λ h. IsPiece (m - h) h) half_width (first_half m (2 ^ suc n) piece (omega (arith, two-pow-succ n, pow_pos n)))

  pub second_piece : IsPiece (m + 2 ^ n) (2 ^ n)
  second_piece = subst (λ h. IsPiece (m + h) h) half_width (second_half m (2 ^ suc n) piece (omega (arith, two-pow-succ n, pow_pos n)))

  -- The middle of a piece that is not finest is even.
  pub even_middle : m ≡ m / 2 + m / 2
  even_middle = omega (arith, in_quarters m (2 ^ suc n) piece (omega (arith, two-pow-succ n, pow_pos n)))

abbrev pub one_if : Bool → ℕ
one_if passes = cond passes 1 0

pub none_pass : (t : ℕ → ℕ → Bool) (n m : ℕ) → 2 ^ n ≤ m → ((i x : ℕ) → i ≤ n → Contains m (2 ^ n) x (2 ^ i) → t x (2 ^ i) ≡ false) → passing t n m ≡ 0
none_pass t zero m fits none = ap one_if (none 0 m (omega arith) (omega arith, omega arith))
none_pass t (suc n) m fits none =
    let twice = two-pow-succ n in
    let top = ap one_if (none (suc n) m (omega arith) (omega arith, omega arith)) in
    let first = none_pass t n (m - 2 ^ n) (omega arith) (λ i x low part. none i x (omega arith) (omega arith, omega arith)) in
    let second = none_pass t n (m + 2 ^ n) (omega arith) (λ i x low part. none i x (omega arith) (omega arith, omega arith)) in
    omega (arith, top, first, second)

-- what is counted is told once
passing_same : (t u : ℕ → ℕ → Bool) → ((m r : ℕ) → IsPiece m r → t m r ≡ u m r) → (n m : ℕ) → IsPiece m (2 ^ n) → passing t n m ≡ passing u n m
passing_same t u same zero m piece = ap one_if (same m 1 piece)
passing_same t u same (suc n) m piece =
    let top = ap one_if (same m (2 ^ suc n) piece) in
    let first = passing_same t u same n (m - 2 ^ n) (first_piece n m piece) in
    let second = passing_same t u same n (m + 2 ^ n) (second_piece n m piece) in
    omega (arith, top, first, second)

counted_by : (Such : ℕ → ℕ → Type 0) (n : ℕ) (test : ℕ → ℕ → Bool) → Tells test Such → n ≡ passing test 11 2048 → HowMany Such n
counted_by Such n test tells count = record {
  test = test;
  tells = tells;
  count = count;
  same = λ other also. count ∙ passing_same test other (λ m r piece. same_from_decides (test m r) (other m r) (tells m r piece) (also m r piece)) 11 2048 (omega arith);
}

-- The piece of level n that x lies in is cleared.
abbrev cleared_at : (ℕ → ℕ → Bool) → ℕ → ℕ → Bool
cleared_at clear n x = clear (around (2 ^ n) x) (2 ^ n)

-- Of the d lowest levels, some piece wider than s that x lies in is cleared.
abbrev wider : (ℕ → ℕ → Bool) → ℕ → ℕ → ℕ → Bool
wider clear zero x s = false
wider clear (suc i) x s = (ltb s (2 ^ i) && cleared_at clear i x) || wider clear i x s

module _ (clear : ℕ → ℕ → Bool) where
  wider_true : (d i x s : ℕ) → i < d → s < 2 ^ i → cleared_at clear i x ≡ true → wider clear d x s ≡ true
  wider_true zero i x s below larger e = absurd (omega arith)
  wider_true (suc d) i x s below larger e =
      elim (dec_le d i) [
        | yes h ↦
            let here : (ltb s (2 ^ i) && cleared_at clear i x) ≡ true = and_from (ltb s (2 ^ i)) (cleared_at clear i x) (lt-ltb s (2 ^ i) larger) e in
            or_left (ltb s (2 ^ d) && cleared_at clear d x) (wider clear d x s) (subst (λ k. (ltb s (2 ^ k) && cleared_at clear k x) ≡ true) (let same : i ≡ d = omega arith in same) here)
        | no h ↦ or_right (ltb s (2 ^ d) && cleared_at clear d x) (wider clear d x s) (wider_true d i x s (omega arith) larger e)
      ]

  wider_false : (d x s : ℕ) → ((i : ℕ) → i < d → s < 2 ^ i → cleared_at clear i x ≡ false) → wider clear d x s ≡ false
  wider_false zero x s none = refl
  wider_false (suc d) x s none =
      let here : (ltb s (2 ^ d) && cleared_at clear d x) ≡ false =
      elim (true_or_false (ltb s (2 ^ d))) [
        | inl e ↦ and_right (ltb s (2 ^ d)) (cleared_at clear d x) (none d (omega arith) (ltb-true s (2 ^ d) e))
        | inr e ↦ and_left (ltb s (2 ^ d)) (cleared_at clear d x) e
      ] in
      or_from (ltb s (2 ^ d) && cleared_at clear d x) (wider clear d x s) here (wider_false d x s (λ i below. none i (omega arith)))

  -- The test that tells which pieces are exposed.
  abbrev bare : ℕ → ℕ → Bool
  bare m r = not (wider clear 12 m r)

  -- A cleared piece with x inside is the piece of its level that x lies in.
  told_at : (m r x : ℕ) → IsPiece m r → m < x + r → x < m + r → clear m r ≡ true → (i : ℕ) × (i ≤ 11) × (r ≡ 2 ^ i) × (cleared_at clear i x ≡ true)
  told_at m r x piece from to e =
      let level = level_of r piece.1 in
      let same : around r x ≡ m = around_is m r x piece from to in
      (level.0, level.1, level.2, subst (λ k. clear (around k x) k ≡ true) level.2 (ap (λ k. clear k r) same ∙ e))

  tells : (m r : ℕ) → IsPiece m r → Decides (bare m r) (Exposed clear m r)
  tells x s piece = (
    λ e m r other larger part.
        elim (true_or_false (clear m r)) [
          | inr h ↦ h
          | inl h ↦
              let found = told_at m r x other (omega (arith, piece.0)) (omega (arith, piece.0)) h in
              absurd (both_ways (wider clear 12 x s) (not-true (wider clear 12 x s) e) (wider_true 12 found.0 x s (omega (arith, found.1)) (omega (arith, found.2)) found.3))
        ],
    λ exposed.
        let level = level_of s piece.1 in
        let n = level.0 in
        let piece' : IsPiece x (2 ^ n) = subst (IsPiece x) level.2 piece in
        not_from_false (wider clear 12 x s) (wider_false 12 x s (λ i below larger.
        let higher : n < i = level_below n i (omega (arith, level.2)) in
        exposed (around (2 ^ i) x) (2 ^ i) (around_piece i x (omega arith) piece.3) larger (subst (Contains (around (2 ^ i) x) (2 ^ i) x) (sym level.2) (around_contains n i x piece' higher)))),
  )

  -- What is counted: the exposed pieces that start at or before `last`.
  abbrev counted_to : ℕ → ℕ → ℕ → Bool
  counted_to last m r = bare m r && leb (m - r) last

  tells_to : (last m r : ℕ) → IsPiece m r → Decides (counted_to last m r) (Exposed clear m r × (m - r ≤ last))
  tells_to last m r piece = (
    λ e. let parts = and_parts (bare m r) (leb (m - r) last) e in ((tells m r piece).0 parts.0, leb-true (m - r) last parts.1),
    λ h. and_from (bare m r) (leb (m - r) last) ((tells m r piece).1 h.0) (le-leb (m - r) last h.1),
  )

  -- No larger piece that contains the piece of level n about m is cleared.
  abbrev Above : ℕ → ℕ → Type 0
  Above n m = (i x : ℕ) → n < i → i ≤ 11 → m < x + 2 ^ n → x < m + 2 ^ n → cleared_at clear i x ≡ false

  bare_true : (n m : ℕ) → Above n m → bare m (2 ^ n) ≡ true
  bare_true n m above =
      not_from_false (wider clear 12 m (2 ^ n)) (wider_false 12 m (2 ^ n) (λ i below larger. above i m (level_below n i larger) (omega arith) (omega (arith, pow_pos n)) (omega (arith, pow_pos n))))

  bare_false : (n i m : ℕ) → n < i → i ≤ 11 → cleared_at clear i m ≡ true → bare m (2 ^ n) ≡ false
  bare_false n i m low high e = not_from_true (wider clear 12 m (2 ^ n)) (wider_true 12 i m (2 ^ n) (omega arith) (pow-lt low) e)

  counts_one : (last n m : ℕ) → Above n m → m - 2 ^ n ≤ last → one_if (counted_to last m (2 ^ n)) ≡ 1
  counts_one last n m above early = ap one_if (and_from (bare m (2 ^ n)) (leb (m - 2 ^ n) last) (bare_true n m above) (le-leb (m - 2 ^ n) last early))

  -- A cleared piece covers what lies in it, and no piece below it is exposed.
  covers : (n m k : ℕ) → IsPiece m (2 ^ n) → clear m (2 ^ n) ≡ true → m < 2 * k + 1 + 2 ^ n → 2 * k + 1 < m + 2 ^ n → Covered clear k
  covers n m k piece e from to = (m, 2 ^ n, piece, (omega arith, omega arith), e)

  cleared_count : (last n m : ℕ) → n ≤ 11 → IsPiece m (2 ^ n) → Above n m → clear m (2 ^ n) ≡ true → m + 2 ^ n ≤ last → passing (counted_to last) n m ≡ 1
  cleared_count last zero m low piece above e late = counts_one last 0 m above (omega arith)
  cleared_count last (suc n) m low piece above e late =
      let twice = two-pow-succ n in
      let enough = fits n m piece in
      let shut : (i x : ℕ) → i ≤ n → m < x + 2 ^ suc n → x < m + 2 ^ suc n → counted_to last x (2 ^ i) ≡ false =
      λ i x below from to.
      and_left (bare x (2 ^ i)) (leb (x - 2 ^ i) last) (bare_false i (suc n) x (omega arith) low (ap (λ k. clear k (2 ^ suc n)) (around_is m (2 ^ suc n) x piece from to) ∙ e)) in
      let top = counts_one last (suc n) m above (omega arith) in
      let first = none_pass (counted_to last) n (m - 2 ^ n) (omega arith) (λ i x below part. shut i x below (omega (arith, pow_pos i)) (omega (arith, pow_pos i))) in
      let second = none_pass (counted_to last) n (m + 2 ^ n) (omega arith) (λ i x below part. shut i x below (omega (arith, pow_pos i)) (omega (arith, pow_pos i))) in
      omega (arith, top, first, second)

  -- What lies above a half of an uncleared piece.
  module _ (n m : ℕ) (piece : IsPiece m (2 ^ suc n)) (above : Above (suc n) m) (uncleared : clear m (2 ^ suc n) ≡ false) where
    from_top : (i x : ℕ) → n < i → i ≤ 11 → m < x + 2 ^ suc n → x < m + 2 ^ suc n → cleared_at clear i x ≡ false
    from_top i x low high from to =
        elim (dec_le i (suc n)) [
          | yes h ↦ subst (λ k. cleared_at clear k x ≡ false) (let same : suc n ≡ i = omega arith in same) (ap (λ k. clear k (2 ^ suc n)) (around_is m (2 ^ suc n) x piece from to) ∙ uncleared)
          | no h ↦ above i x (omega arith) high from to
        ]

    above_first : Above n (m - 2 ^ n)
    above_first i x low high from to = from_top i x low high (omega (arith, two-pow-succ n, fits n m piece)) (omega (arith, two-pow-succ n, fits n m piece))

    above_second : Above n (m + 2 ^ n)
    above_second i x low high from to = from_top i x low high (omega (arith, two-pow-succ n, fits n m piece)) (omega (arith, two-pow-succ n, fits n m piece))

  -- What a walk over the piece of level n about m has shown.
  abbrev Shown : ℕ → ℕ → Walk → Type 0
  Shown n m (Cleared b) =
      ((k : ℕ) → m < 2 * k + 1 + 2 ^ n → 2 * k + 1 < m + 2 ^ n → Covered clear k) × ((last : ℕ) → m + 2 ^ n ≤ last → passing (counted_to last) n m ≡ b)
  Shown n m (Stopped s b) =
      (s ≡ 2 * (s / 2) + 1) × (m + 1 ≤ s + 2 ^ n) × (s + 1 ≤ m + 2 ^ n) × (Covered clear (s / 2) → ⊥) × ((k : ℕ) → m < 2 * k + 1 + 2 ^ n → 2 * k + 1 < s → Covered clear k) × (passing (counted_to (s - 1)) n m ≡ b)

  finest_shown : (m : ℕ) → IsPiece m 1 → Above 0 m → clear m 1 ≡ false → Shown 0 m (Stopped m 1)
  finest_shown m piece above uncleared =
      let odd : m ≡ 2 * (m / 2) + 1 = omega (arith, piece.2) in
      let uncleared-here : (i : ℕ) → i ≤ 11 → cleared_at clear i m ≡ false =
      λ i high.
      elim (dec_le i 0) [
        | yes h ↦ subst (λ k. cleared_at clear k m ≡ false) (let same : 0 ≡ i = omega arith in same) (ap (λ k. clear k 1) (around_is m 1 m piece (omega arith) (omega arith)) ∙ uncleared)
        | no h ↦ above i m (omega arith) high (omega arith) (omega arith)
      ] in (
        odd,
        omega arith,
        omega arith,
        λ covered.
            let found = told_at covered.0 covered.1 m covered.2 (omega (arith, covered.3.0, covered.3.1)) (omega (arith, covered.3.0, covered.3.1)) covered.4 in
            both_ways (cleared_at clear found.0 m) (uncleared-here found.0 found.1) found.3,
        λ k from to. absurd (omega arith),
        counts_one (m - 1) 0 m above (omega arith),
      )

  -- The two halves of an uncleared piece.
  module _ (n m : ℕ) (piece : IsPiece m (2 ^ suc n)) (above : Above (suc n) m) where
    both_shown : (x y : Walk) → Shown n (m - 2 ^ n) x → Shown n (m + 2 ^ n) y → Shown (suc n) m (and_then x y)
    both_shown (Cleared b) (Cleared d) p q = (
      λ k from to.
          elim (dec_le m (2 * k + 1)) [
            | yes h ↦ q.0 k (omega (arith, even_middle n m piece)) (omega (arith, two-pow-succ n))
            | no h ↦ p.0 k (omega (arith, two-pow-succ n, fits n m piece)) (omega (arith, two-pow-succ n, fits n m piece))
          ],
      λ last late.
          let twice = two-pow-succ n in
          let enough = fits n m piece in
          omega (arith, counts_one last (suc n) m above (omega arith), p.1 last (omega arith), q.1 last (omega arith)),
    )
    both_shown (Cleared b) (Stopped s d) p q =
        let twice = two-pow-succ n in
        let enough = fits n m piece in (
          q.0,
          omega (arith, q.1),
          omega (arith, q.2),
          q.3,
          λ k from to.
              elim (dec_le m (2 * k + 1)) [
                | yes h ↦ q.4 k (omega (arith, even_middle n m piece)) to
                | no h ↦ p.0 k (omega arith) (omega arith)
              ],
          omega (arith, counts_one (s - 1) (suc n) m above (omega (arith, q.1)), p.1 (s - 1) (omega (arith, q.1)), q.5),
        )
    both_shown (Stopped s b) y p q =
        let twice = two-pow-succ n in
        let enough = fits n m piece in
        let before = p.2 in
        let late : passing (counted_to (s - 1)) n (m + 2 ^ n) ≡ 0 =
        none_pass (counted_to (s - 1)) n (m + 2 ^ n) (omega arith) (λ i x below part. and_right (bare x (2 ^ i)) (leb (x - 2 ^ i) (s - 1)) (lt-leb (x - 2 ^ i) (s - 1) (omega arith))) in (
          p.0,
          omega (arith, p.1),
          omega arith,
          p.3,
          λ k from to. p.4 k (omega arith) to,
          omega (arith, counts_one (s - 1) (suc n) m above (omega (arith, p.1)), p.5, late),
        )

-- The walk of the check has shown it.
module _ (field : Meaning) (leg : Leg) where
  walk_shown : (n m : ℕ) → n ≤ 11 → IsPiece m (2 ^ n) → Above (clears field leg) n m → Shown (clears field leg) n m (examine_of field leg n m)
  walk_shown zero m low piece above =
      elim (true_or_false (clears field leg m 1)) [
        | inl e ↦ rw (cleared_walk field leg 0 m e) ((λ k from to. covers (clears field leg) 0 m k piece e from to), (λ last late. cleared_count (clears field leg) last 0 m low piece above e late))
        | inr e ↦ rw (finest_walk field leg m e) (finest_shown (clears field leg) m piece above e)
      ]
  walk_shown (suc n) m low piece above =
      elim (true_or_false (clears field leg m (2 ^ suc n))) [
        | inl e ↦ rw (cleared_walk field leg (suc n) m e) ((λ k from to. covers (clears field leg) (suc n) m k piece e from to), (λ last late. cleared_count (clears field leg) last (suc n) m low piece above e late))
        | inr e ↦
            let first = walk_shown n (m - 2 ^ n) (omega arith) (first_piece n m piece) (above_first (clears field leg) n m piece above e) in
            let second = walk_shown n (m + 2 ^ n) (omega arith) (second_piece n m piece) (above_second (clears field leg) n m piece above e) in
            rw (halved_walk field leg n m e) (both_shown (clears field leg) n m piece above _ _ first second)
      ]

  abbrev Related : Row → Type 0
  Related row = Relation (field.value leg) (clears field leg) row

  -- a walk over the whole leg that stopped, with its piece
  stopped_first : (s b : ℕ) → Shown (clears field leg) 11 2048 (Stopped s b) → First (clears field leg) ((s - 1) / 2)
  stopped_first s b p =
      let half : s / 2 ≡ (s - 1) / 2 = omega (arith, p.0) in
      record {
        finest = omega (arith, p.2);
        uncovered = λ covered. p.3 (subst (Covered (clears field leg)) (sym half) covered);
        before = λ j before. p.4 j (omega arith) (omega arith);
      }

  stopped_count : (s b : ℕ) → Shown (clears field leg) 11 2048 (Stopped s b) → HowMany (λ m r. Exposed (clears field leg) m r × (m - r ≤ 2 * ((s - 1) / 2))) b
  stopped_count s b p =
      let start : s - 1 ≡ 2 * ((s - 1) / 2) = omega (arith, p.0) in
      counted_by _ _ (counted_to (clears field leg) (2 * ((s - 1) / 2))) (tells_to (clears field leg) (2 * ((s - 1) / 2))) (sym (subst (λ x. passing (counted_to (clears field leg) x) 11 2048 ≡ b) start p.5))

  -- the start is outside, so the answer is not inside
  module _ (outside : pos 0 <ℤ field.value leg (pos 0) (pos 1)) where
    verdict_related : (w : Walk) → bounds_of w ≤ 4095 → Shown (clears field leg) 11 2048 w → Related (row_of (verdict_of field leg w))
    verdict_related (Cleared b) few p = record {
      one_of_four = omega arith;
      inside = λ h. not_both _ h outside;
      only_inside = λ e. absurd (omega arith);
      clear = λ _. (
        refl,
        λ k below. p.0 k (omega arith) (omega arith),
        counted_by _ _ (counted_to (clears field leg) 4096)
            (λ m r piece. ((λ e. ((tells_to (clears field leg) 4096 m r piece).0 e).0), (λ h. (tells_to (clears field leg) 4096 m r piece).1 (h, omega (arith, piece.3)))))
            (sym (p.1 4096 (omega arith))),
      );
      only_clear = λ _ _. refl;
      named = λ e. absurd (omega arith);
      entered = λ k d e. absurd (omega arith);
      near = λ k d e. absurd (omega arith);
      few_bounds = few;
    }
    verdict_related (Stopped s b) few p =
        let finish : s + 1 ≡ 2 * ((s - 1) / 2) + 2 = omega (arith, p.0) in
        elim (true_or_false (lt_z (pos 0) (field.value leg (pos (s + 1)) (pos 1)))) [
          | inl e ↦
              subst (λ v. Related (row_of v)) (sym (near_verdict field leg s b e)) (record {
                one_of_four = omega arith;
                inside = λ h. not_both _ h outside;
                only_inside = λ d. absurd (omega arith);
                clear = λ d. absurd (omega arith);
                only_clear = λ _ all. absurd ((stopped_first s b p).uncovered (all ((s - 1) / 2) (stopped_first s b p).finest));
                named = λ _. ((s - 1) / 2, refl, stopped_first s b p, stopped_count s b p);
                entered = λ k d i. absurd (omega arith);
                near = λ k d _. subst (λ (x : ℕ). pos 0 <ℤ field.value leg (pos x) (pos 1)) (finish ∙ ap (λ (x : ℕ). 2 * x + 2) (ap nat_abs d)) (from_test (field.value leg (pos (s + 1)) (pos 1)) e);
                few_bounds = few;
              })
          | inr e ↦
              subst (λ v. Related (row_of v)) (sym (entered_verdict field leg s b e)) (record {
                one_of_four = omega arith;
                inside = λ h. not_both _ h outside;
                only_inside = λ d. absurd (omega arith);
                clear = λ d. absurd (omega arith);
                only_clear = λ _ all. absurd ((stopped_first s b p).uncovered (all ((s - 1) / 2) (stopped_first s b p).finest));
                named = λ _. ((s - 1) / 2, refl, stopped_first s b p, stopped_count s b p);
                entered = λ k d _. subst (λ (x : ℕ). field.value leg (pos x) (pos 1) ≤ℤ pos 0) (finish ∙ ap (λ (x : ℕ). 2 * x + 2) (ap nat_abs d)) (from_failed (field.value leg (pos (s + 1)) (pos 1)) e);
                near = λ k d i. absurd (omega arith);
                few_bounds = few;
              })
        ]

  pub check_related : Related (row_of (check_of field leg))
  check_related =
      elim (true_or_false (lt_z (pos 0) (field.value leg (pos 0) (pos 1)))) [
        | inl e ↦
            subst (λ v. Related (row_of v)) (sym (walked_check field leg e))
            (verdict_related (from_test (field.value leg (pos 0) (pos 1)) e) (examine_of field leg 11 2048) (omega (arith, few_bounds field leg 11 2048))
            (walk_shown 11 2048 (omega arith) (omega arith) (λ i x low high from to. absurd (omega arith))))
        | inr e ↦
            subst (λ v. Related (row_of v)) (sym (inside_check field leg e)) (record {
              one_of_four = omega arith;
              inside = λ _. (refl, refl, refl);
              only_inside = λ _. from_failed (field.value leg (pos 0) (pos 1)) e;
              clear = λ d. absurd (omega arith);
              only_clear = λ outside _. not_both _ (from_failed (field.value leg (pos 0) (pos 1)) e) outside;
              named = λ d. absurd (omega arith);
              entered = λ k d i. absurd (omega arith);
              near = λ k d i. absurd (omega arith);
              few_bounds = omega arith;
            })
      ]
