-- What `examine_of` comes to, by what its piece's bound says.
use Rattle.std.proofs.Common.{◌≡◌, ℕ, zero, suc, ◌+◌, ◌-◌, ◌/◌, ◌^◌, ◌<◌, ◌≤◌, Bool, true, false, ◌⊎◌, sym, refl, ap, ◌∙◌, subst, inl, inr, arith, pow_pos, pow_mono}
use native.Mathlib.Nat.{two-pow-succ}
use Rattle.leg.specs.Ranges.{IsPiece}
use Rattle.field.specs.Meaning.{Meaning}
use Rattle.leg_check.specs.Halving.{clears, bounds_of, and_then, examine_of}
use Rattle.leg.specs.declared.shapes.Leg.{Leg}
use Rattle.leg_check.specs.declared.verdict.Walk.{Walk}
use Rattle.leg_check.specs.declared.verdict.Walk.TheVariants.{Cleared, Stopped}
use Rattle.leg.proofs.Halving.{level_of}

-- A walk about m that stopped did so within w of m.
abbrev pub StopsWithin : ℕ → ℕ → Walk → Type 0
StopsWithin m w (Cleared b) = Unit {0}
StopsWithin m w (Stopped s b) = (m < s + w) × (s < m + w)

pub true_or_false : (b : Bool) → (b ≡ true) ⊎ (b ≡ false)
true_or_false true = inl refl
true_or_false false = inr refl

both_bounds : (x y : Walk) → bounds_of (and_then x y) ≤ bounds_of x + bounds_of y + 1
both_bounds (Cleared b) (Cleared d) = omega arith
both_bounds (Cleared b) (Stopped s d) = omega arith
both_bounds (Stopped s b) y = omega arith

both_stops : (m h : ℕ) (x y : Walk) → 0 < h → h ≤ m → StopsWithin (m - h) h x → StopsWithin (m + h) h y → StopsWithin m (h + h) (and_then x y)
both_stops m h (Cleared b) (Cleared d) some fits p q = tt
both_stops m h (Cleared b) (Stopped s d) some fits p q = omega arith
both_stops m h (Stopped s b) y some fits p q = omega arith

module _ (field : Meaning) (leg : Leg) where
  pub cleared_walk : (n m : ℕ) → clears field leg m (2 ^ n) ≡ true → examine_of field leg n m ≡ Cleared 1
  unfolding examine_of
  cleared_walk zero m e = rw (examine_of, e)
  cleared_walk (suc n) m e = rw (examine_of, e)

  pub finest_walk : (m : ℕ) → clears field leg m 1 ≡ false → examine_of field leg 0 m ≡ Stopped m 1
  unfolding examine_of
  finest_walk m e = rw (examine_of, e)

  pub halved_walk : (n m : ℕ) → clears field leg m (2 ^ suc n) ≡ false → examine_of field leg (suc n) m ≡ and_then (examine_of field leg n (m - 2 ^ n)) (examine_of field leg n (m + 2 ^ n))
  unfolding examine_of
  halved_walk n m e = rw (examine_of, e)

  -- A walk over a piece at level n takes fewer than 2 ^ (n + 1) bounds.
  pub few_bounds : (n m : ℕ) → bounds_of (examine_of field leg n m) < 2 ^ suc n
  few_bounds zero m =
      elim (true_or_false (clears field leg m 1)) [
        | inl e ↦ omega (arith, ap bounds_of (cleared_walk 0 m e))
        | inr e ↦ omega (arith, ap bounds_of (finest_walk m e))
      ]
  few_bounds (suc n) m =
      let first = few_bounds n (m - 2 ^ n) in
      let second = few_bounds n (m + 2 ^ n) in
      elim (true_or_false (clears field leg m (2 ^ suc n))) [
        | inl e ↦ omega (arith, ap bounds_of (cleared_walk (suc n) m e), two-pow-succ (suc n), pow_pos (suc n))
        | inr e ↦ omega (arith, ap bounds_of (halved_walk n m e), both_bounds (examine_of field leg n (m - 2 ^ n)) (examine_of field leg n (m + 2 ^ n)), first, second, two-pow-succ (suc n))
      ]

  pub stops_within : (n m : ℕ) → 2 ^ n ≤ m → StopsWithin m (2 ^ n) (examine_of field leg n m)
  stops_within zero m fits =
      elim (true_or_false (clears field leg m 1)) [
        | inl e ↦ rw (cleared_walk 0 m e) tt
        | inr e ↦ rw (finest_walk m e) (omega arith)
      ]
  stops_within (suc n) m fits =
      elim (true_or_false (clears field leg m (2 ^ suc n))) [
        | inl e ↦ rw (cleared_walk (suc n) m e) tt
        | inr e ↦
            let first = stops_within n (m - 2 ^ n) (omega (arith, two-pow-succ n)) in
            let second = stops_within n (m + 2 ^ n) (omega arith) in
            rw (halved_walk n m e, two-pow-succ n) (both_stops m (2 ^ n) _ _ (pow_pos n) (omega (arith, two-pow-succ n)) first second)
      ]

  -- The steps of the code, which has the half-width for the level.
  pub cleared_step : (n m r : ℕ) → r ≡ 2 ^ n → clears field leg m r ≡ true → Cleared 1 ≡ examine_of field leg n m
  cleared_step n m r e test = sym (cleared_walk n m (subst (λ x. clears field leg m x ≡ true) e test))

  pub finest_step : (n m r : ℕ) → r ≡ 2 ^ n → r ≡ 1 → clears field leg m r ≡ false → Stopped m 1 ≡ examine_of field leg n m
  finest_step zero m r e one test = sym (finest_walk m (subst (λ x. clears field leg m x ≡ false) e test))
  finest_step (suc n) m r e one test = absurd (omega (arith, two-pow-succ n, pow_pos n))

  module _ (m r : ℕ) (wide : 1 < r) (test : clears field leg m r ≡ false) where
    pub both_step : (n m₁ r₁ m₂ r₂ : ℕ) (first second : Walk) → r ≡ 2 ^ n → m₁ ≡ m - r / 2 → r₁ ≡ r / 2 → m₂ ≡ m + r / 2 → r₂ ≡ r / 2 → ((k : ℕ) → r₁ ≡ 2 ^ k → first ≡ examine_of field leg k m₁) → ((k : ℕ) → r₂ ≡ 2 ^ k → second ≡ examine_of field leg k m₂) → and_then first second ≡ examine_of field leg n m
    both_step zero m₁ r₁ m₂ r₂ first second e a b c d p q = absurd (omega arith)
    both_step (suc n) m₁ r₁ m₂ r₂ first second e a b c d p q =
        let h : r / 2 ≡ 2 ^ n = omega (arith, two-pow-succ n) in
        let x : first ≡ examine_of field leg n (m - 2 ^ n) = p n (b ∙ h) ∙ ap (examine_of field leg n) (a ∙ ap (λ y. m - y) h) in
        let y : second ≡ examine_of field leg n (m + 2 ^ n) = q n (d ∙ h) ∙ ap (examine_of field leg n) (c ∙ ap (λ y. m + y) h) in
        rw (x, y) (sym (halved_walk n m (subst (λ x. clears field leg m x ≡ false) e test)))

    pub first_step : (n m₁ r₁ s b : ℕ) → r ≡ 2 ^ n → m₁ ≡ m - r / 2 → r₁ ≡ r / 2 → ((k : ℕ) → r₁ ≡ 2 ^ k → Stopped s b ≡ examine_of field leg k m₁) → Stopped s (b + 1) ≡ examine_of field leg n m
    first_step zero m₁ r₁ s b e f g p = absurd (omega arith)
    first_step (suc n) m₁ r₁ s b e f g p =
        let h : r / 2 ≡ 2 ^ n = omega (arith, two-pow-succ n) in
        let x : examine_of field leg n (m - 2 ^ n) ≡ Stopped s b = sym (p n (g ∙ h) ∙ ap (examine_of field leg n) (f ∙ ap (λ y. m - y) h)) in
        sym (halved_walk n m (subst (λ x. clears field leg m x ≡ false) e test) ∙ ap (λ z. and_then z (examine_of field leg n (m + 2 ^ n))) x)

  -- What a walk over a piece counted.
  counted_below : (m r : ℕ) → IsPiece m r → (w : Walk) → ((k : ℕ) → r ≡ 2 ^ k → w ≡ examine_of field leg k m) → bounds_of w < 4096
  counted_below m r piece w walked =
      let level = level_of r piece.1 in
      let n = level.0 in
      omega (arith, ap bounds_of (walked n level.2), few_bounds n m, two-pow-succ n, pow_mono level.1)

-- What `examine` shows of its walk, from what the walk is.
pub walked : (field : Meaning) (leg : Leg) (m r : ℕ) → IsPiece m r → {w : Walk} → ((n : ℕ) → r ≡ 2 ^ n → w ≡ examine_of field leg n m) → record {
  exact : (n : ℕ) → r ≡ 2 ^ n → w ≡ examine_of field leg n m;
  few : bounds_of w < 4096;
}
walked field leg m r piece {w} e = record { exact = e; few = counted_below field leg m r piece w e }

-- Where the walk over the whole leg stops.
pub stopped_on_leg : (field : Meaning) (leg : Leg) (s b : ℕ) → Stopped s b ≡ examine_of field leg 11 2048 → (0 < s) × (s < 4096)
stopped_on_leg field leg s b e =
    let within : StopsWithin 2048 2048 (Stopped s b) = subst (StopsWithin 2048 2048) (sym e) (stops_within field leg 11 2048 (omega arith)) in
    (omega arith, omega arith)

-- The walk over the whole leg.
pub whole_walk : (field : Meaning) (leg : Leg) {m r : ℕ} {w : Walk} → (m ≡ 2048) × (r ≡ 2048) → ((n : ℕ) → r ≡ 2 ^ n → w ≡ examine_of field leg n m) → w ≡ examine_of field leg 11 2048
whole_walk field leg whole walked = walked 11 whole.1 ∙ ap (λ (x : ℕ). examine_of field leg 11 x) whole.0
