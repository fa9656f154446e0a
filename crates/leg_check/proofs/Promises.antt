-- What the verdict says of every place of the leg, for a field that keeps the laws. "The value is above 0 up to here" is carried along the walk.
use Rattle.std.proofs.Common.{◌≡◌, ℕ, zero, suc, ◌+◌, ◌-◌, ◌*◌, ◌/◌, ◌^◌, ◌<◌, ◌≤◌, true, false, ℤ, pos, ◌-ℤ◌, ◌*ℤ◌, ◌≤ℤ◌, ◌<ℤ◌, sym, refl, subst, inl, inr, arith, pow_pos}
use native.Mathlib.Nat.{two-pow-succ}
use lib.Signed.{lt_z}
use borrow.Author.Differences.{ints}
use Rattle.std.proofs.lemmas.Int.{by_lt_z}
use Rattle.integer.specs.Numbers.{Within}
use Rattle.integer.proofs.Order.{≤ℤ_trans, product≥1}
use Rattle.integer.proofs.Absolute.{over}
use Rattle.leg.specs.declared.shapes.Leg.{Leg}
use Rattle.leg.specs.Ranges.{IsPiece}
use Rattle.leg.specs.Places.{OnLeg, OnPiece}
use Rattle.leg.proofs.Halving.{first_half, second_half}
use Rattle.leg.proofs.Shaping.{piece_span}
use Rattle.affine.specs.Forms.{low_end}
use Rattle.affine.proofs.Holding.{above_low}
use Rattle.field.specs.Meaning.{Meaning, Laws}
use Rattle.leg_check.specs.Halving.{clears, and_then, examine_of, verdict_of, check_of}
use Rattle.leg_check.specs.Promise.{Row, row_of, Free, Promise}
use Rattle.leg_check.specs.declared.verdict.Walk.{Walk}
use Rattle.leg_check.specs.declared.verdict.Walk.TheVariants.{Cleared, Stopped}
use Rattle.leg_check.proofs.Walks.{true_or_false, cleared_walk, finest_walk, halved_walk}
use Rattle.leg_check.proofs.Verdicts.{inside_check, walked_check, entered_verdict, near_verdict}

-- what a walk that began where all was free has shown: all is free up to `end`, or up to the uncleared finest piece where it stopped
abbrev Reached : Meaning → Leg → ℕ → Walk → Type 0
Reached field leg end (Cleared b) = Free (field.value leg) end
Reached field leg end (Stopped s b) = Free (field.value leg) (s - 1) × IsPiece s 1 × (clears field leg s 1 ≡ false)

reached_both : (field : Meaning) (leg : Leg) (mid end : ℕ) (x y : Walk) → Reached field leg mid x → (Free (field.value leg) mid → Reached field leg end y) → Reached field leg end (and_then x y)
reached_both field leg mid end (Cleared b) (Cleared d) p q = q p
reached_both field leg mid end (Cleared b) (Stopped s d) p q = q p
reached_both field leg mid end (Stopped s b) y p q = p

-- ---- over plain numbers

at_least_1 : {z : ℤ} → pos 0 <ℤ z → pos 1 ≤ℤ z
at_least_1 {z} h = omega (arith, ints)

above_0 : {z : ℤ} → pos 1 ≤ℤ z → pos 0 <ℤ z
above_0 {z} h = omega (arith, ints)

less : {a b : ℤ} → a <ℤ b → a ≤ℤ b
less {a} {b} h = omega (arith, ints)

pub from_test : (z : ℤ) → lt_z (pos 0) z ≡ true → pos 0 <ℤ z
from_test z e = omega (arith, ints)

pub from_failed : (z : ℤ) → lt_z (pos 0) z ≡ false → z ≤ℤ pos 0
from_failed z e = omega (arith, ints)

pub not_both : {A : Type 0} (z : ℤ) → z ≤ℤ pos 0 → pos 0 <ℤ z → A
not_both z h k = absurd (omega (arith, ints))

-- an uncleared finest piece: its low end is not above 0, and within L of the value at its middle
near_zero : (V x L : ℤ) → Within (x -ℤ V) (L *ℤ pos 1) → x ≤ℤ pos 0 → V ≤ℤ L
near_zero V x L w h = let a = over w in omega (arith, ints)

module _ (field : Meaning) (laws : Laws field) (leg : Leg) where
  -- where the value at half-step 0 is above 0, so it is at each place that is half-step 0
  free_start : pos 0 <ℤ field.value leg (pos 0) (pos 1) → Free (field.value leg) 0
  free_start above p q at early =
      above_0 (plain (field.value leg p q) (subst (λ (z : ℤ). pos 1 ≤ℤ z) (sym same) (product≥1 (at_least_1 above) (product≥1 at.parts at.parts))))
    where
      start : OnLeg (pos 0) (pos 1)
      start = record { parts = omega (arith, ints); from = omega (arith, ints); to = omega (arith, ints) }

      zero_place : p *ℤ pos 1 ≡ pos 0 *ℤ q
      zero_place = let h = at.from in omega (arith, ints)

      same : field.value leg p q *ℤ (pos 1 *ℤ pos 1) ≡ field.value leg (pos 0) (pos 1) *ℤ (q *ℤ q)
      same = laws.same_fraction leg p q (pos 0) (pos 1) at start zero_place

      plain : (z : ℤ) → pos 1 ≤ℤ (z *ℤ pos 1) → pos 1 ≤ℤ z
      plain z h = omega (arith, ints)

  -- a cleared piece carries on from its start to its end
  free_piece : (m r : ℕ) → IsPiece m r → clears field leg m r ≡ true → Free (field.value leg) (m - r) → Free (field.value leg) (m + r)
  free_piece m r piece clear before p q at upto =
      by_lt_z (pos (m - r) *ℤ q) p
      (λ late. on_piece (record { wide = wide; parts = at.parts; from = subst (λ (x : ℤ). (x *ℤ q) ≤ℤ p) begins (less late); to = upto }))
      (λ early. before p q at early)
    where
      wide : pos 1 ≤ℤ pos r
      wide = let h = piece.0 in omega (arith, ints)

      begins : pos (m - r) ≡ pos m -ℤ pos r
      begins = let h = (piece_span m r piece).0 in omega (arith, ints)

      on_piece : OnPiece (pos m) (pos r) p q → pos 0 <ℤ field.value leg p q
      on_piece on =
          above_0 (≤ℤ_trans (product≥1 (at_least_1 (from_test (low_end (field.bound leg m r)) clear)) (product≥1 at.parts at.parts))
          (above_low (pos m) (pos r) p q on (field.bound leg m r) (field.value leg p q) (q *ℤ q) (laws.holds leg m r piece p q on)))

  walk_reaches : (n m : ℕ) → IsPiece m (2 ^ n) → Free (field.value leg) (m - 2 ^ n) → Reached field leg (m + 2 ^ n) (examine_of field leg n m)
  walk_reaches zero m piece before =
      elim (true_or_false (clears field leg m 1)) [
        | inl e ↦ rw (cleared_walk field leg 0 m e) (free_piece m 1 piece e before)
        | inr e ↦ rw (finest_walk field leg m e) (before, piece, e)
      ]
  walk_reaches (suc n) m piece before =
      elim (true_or_false (clears field leg m (2 ^ suc n))) [
        | inl e ↦ rw (cleared_walk field leg (suc n) m e) (free_piece m (2 ^ suc n) piece e before)
        | inr e ↦
            let twice = two-pow-succ n in
            let some = pow_pos n in
            let half : 2 ^ suc n / 2 ≡ 2 ^ n = omega arith in
            let fits : 2 ^ suc n ≤ m = (piece_span m (2 ^ suc n) piece).0 in
            let piece₁ : IsPiece (m - 2 ^ n) (2 ^ n) = subst (λ h. IsPiece (m - h) h) half (first_half m (2 ^ suc n) piece (omega arith)) in
            let piece₂ : IsPiece (m + 2 ^ n) (2 ^ n) = subst (λ h. IsPiece (m + h) h) half (second_half m (2 ^ suc n) piece (omega arith)) in
            let first : Reached field leg m (examine_of field leg n (m - 2 ^ n)) =
            subst (λ end. Reached field leg end (examine_of field leg n (m - 2 ^ n))) (omega arith) (walk_reaches n (m - 2 ^ n) piece₁ (subst (Free (field.value leg)) (omega arith) before)) in
            let second : Free (field.value leg) m → Reached field leg (m + 2 ^ suc n) (examine_of field leg n (m + 2 ^ n)) =
            λ free. subst (λ end. Reached field leg end (examine_of field leg n (m + 2 ^ n))) (omega arith) (walk_reaches n (m + 2 ^ n) piece₂ (subst (Free (field.value leg)) (omega arith) free)) in
            rw (halved_walk field leg n m e) (reached_both field leg m (m + 2 ^ suc n) _ _ first second)
      ]

  abbrev Promised : Row → Type 0
  Promised row = Promise (field.value leg) (field.steepness leg) row

  -- the start is outside, so the answer is not inside
  module _ (outside : pos 0 <ℤ field.value leg (pos 0) (pos 1)) where
    verdict_promised : (w : Walk) → Reached field leg 4096 w → Promised (row_of (verdict_of field leg w))
    verdict_promised (Cleared b) free = record {
      one_of_four = omega arith;
      clear = λ _. free;
      inside = λ e. absurd (omega arith);
      only_inside = λ h. not_both _ h outside;
      entered = λ e. absurd (omega arith);
      near = λ e. absurd (omega arith);
    }
    verdict_promised (Stopped s b) stopped =
        let piece = stopped.1 in
        let start : s - 1 ≡ 2 * ((s - 1) / 2) = omega arith in
        let middle : s ≡ 2 * ((s - 1) / 2) + 1 = omega arith in
        let finish : s + 1 ≡ 2 * ((s - 1) / 2) + 2 = omega arith in
        let free : Free (field.value leg) (2 * ((s - 1) / 2)) = subst (Free (field.value leg)) start stopped.0 in
        let number : (s - 1) / 2 < 2048 = omega arith in
        elim (true_or_false (lt_z (pos 0) (field.value leg (pos (s + 1)) (pos 1)))) [
          | inl e ↦
              let low : field.value leg (pos s) (pos 1) ≤ℤ field.steepness leg =
              near_zero (field.value leg (pos s) (pos 1)) (low_end (field.bound leg s 1)) (field.steepness leg) (laws.low_near leg s 1 piece) (from_failed (low_end (field.bound leg s 1)) stopped.2) in
              subst (λ v. Promised (row_of v)) (sym (near_verdict field leg s b e)) (record {
                one_of_four = omega arith;
                clear = λ d. absurd (omega arith);
                inside = λ d. absurd (omega arith);
                only_inside = λ h. not_both _ h outside;
                entered = λ d. absurd (omega arith);
                near = λ _. (
                  (s - 1) / 2,
                  refl,
                  number,
                  free,
                  subst (λ (x : ℕ). pos 0 <ℤ field.value leg (pos x) (pos 1)) finish (from_test (field.value leg (pos (s + 1)) (pos 1)) e),
                  subst (λ (x : ℕ). field.value leg (pos x) (pos 1) ≤ℤ field.steepness leg) middle low,
                );
              })
          | inr e ↦
              subst (λ v. Promised (row_of v)) (sym (entered_verdict field leg s b e)) (record {
                one_of_four = omega arith;
                clear = λ d. absurd (omega arith);
                inside = λ d. absurd (omega arith);
                only_inside = λ h. not_both _ h outside;
                entered = λ _. ((s - 1) / 2, refl, number, free, subst (λ (x : ℕ). field.value leg (pos x) (pos 1) ≤ℤ pos 0) finish (from_failed (field.value leg (pos (s + 1)) (pos 1)) e));
                near = λ d. absurd (omega arith);
              })
        ]

  pub check_promised : Promised (row_of (check_of field leg))
  check_promised =
      elim (true_or_false (lt_z (pos 0) (field.value leg (pos 0) (pos 1)))) [
        | inl e ↦
            let outside = from_test (field.value leg (pos 0) (pos 1)) e in
            subst (λ v. Promised (row_of v)) (sym (walked_check field leg e))
            (verdict_promised outside (examine_of field leg 11 2048) (walk_reaches 11 2048 (omega arith) (free_start outside)))
        | inr e ↦
            subst (λ v. Promised (row_of v)) (sym (inside_check field leg e)) (record {
              one_of_four = omega arith;
              clear = λ d. absurd (omega arith);
              inside = λ _. from_failed (field.value leg (pos 0) (pos 1)) e;
              only_inside = λ _. refl;
              entered = λ d. absurd (omega arith);
              near = λ d. absurd (omega arith);
            })
      ]
