-- Bounds of sums, and of the lesser and the greater of numbers, over plain numbers. Definitions that ghost members cite use them, since no tactic may stand there.
use Rattle.std.proofs.Common.{ℕ, ◌<◌, ◌≤◌, ℤ, pos, ◌+ℤ◌, ◌-ℤ◌, ◌*ℤ◌, ◌≤ℤ◌, arith}
use lib.Signed.{◌<ℤ◌}
use borrow.Author.Differences.{ints}
use Rattle.std.specs.Int.{int_min, int_max}
use Rattle.std.proofs.lemmas.Int.{clamps}
use Rattle.integer.specs.Numbers.{Within}
use Rattle.integer.proofs.Absolute.{under, over, within_from}

pub at_most : {a b : ℤ} → a <ℤ b → a ≤ℤ b
at_most {a} {b} h = omega (arith, ints)

pub at_most_more : {a b e : ℤ} → pos 0 ≤ℤ e → a ≤ℤ b → a ≤ℤ (b +ℤ e)
at_most_more {a} {b} {e} h l = omega (arith, ints)

pub once : {a b : ℤ} → a ≤ℤ (b *ℤ pos 1) → a ≤ℤ b
once {a} {b} h = omega (arith, ints)

pub zero_within : {k : ℤ} → pos 0 ≤ℤ k → Within (pos 0) k
zero_within {k} h = within_from (pos 0) k (omega (arith, ints)) (omega (arith, ints))

-- ---- the middle m of a piece of half-width r

pub wide : {r : ℕ} → 0 < r → pos 1 ≤ℤ pos r
wide {r} h = omega (arith, ints)

pub left_of_middle : (m r : ℕ) → ((pos m -ℤ pos r) *ℤ pos 1) ≤ℤ pos m
left_of_middle m r = omega (arith, ints)

pub right_of_middle : (m r : ℕ) → pos m ≤ℤ ((pos m +ℤ pos r) *ℤ pos 1)
right_of_middle m r = omega (arith, ints)

-- ---- the larger of two numbers, and a margin

pub larger≥0 : (a b : ℤ) → pos 0 ≤ℤ a → pos 0 ≤ℤ (int_max a b +ℤ pos 1)
larger≥0 a b h = omega (arith, ints, clamps)

pub larger_scaled : (a b r s : ℤ) → (pos 2048 *ℤ a) ≤ℤ r → (pos 2048 *ℤ b) ≤ℤ s → (pos 2048 *ℤ (int_max a b +ℤ pos 1)) ≤ℤ (int_max r s +ℤ pos 2048)
larger_scaled a b r s h k = omega (arith, ints, clamps)

-- ---- as near as the farther of two

pub lesser_near : (a b c d s : ℤ) → Within (a -ℤ c) s → Within (b -ℤ d) s → Within (int_min a b -ℤ int_min c d) s
lesser_near a b c d s v w =
    let i = under v in let j = over v in let k = under w in let l = over w in
    within_from (int_min a b -ℤ int_min c d) s (omega (arith, ints, clamps)) (omega (arith, ints, clamps))

pub greater_near : (a b c d s : ℤ) → Within (a -ℤ c) s → Within (b -ℤ d) s → Within (int_max a b -ℤ int_max c d) s
greater_near a b c d s v w =
    let i = under v in let j = over v in let k = under w in let l = over w in
    within_from (int_max a b -ℤ int_max c d) s (omega (arith, ints, clamps)) (omega (arith, ints, clamps))

-- h lies above v, and at most 1 above p, which is within s of v
pub near_above : (v h p s r : ℤ) → pos 1 ≤ℤ r → v ≤ℤ h → h ≤ℤ (p +ℤ pos 1) → Within (p -ℤ v) s → Within (h -ℤ v) (s +ℤ r)
near_above v h p s r some above below w =
    let a = under w in let b = over w in
    within_from (h -ℤ v) (s +ℤ r) (omega (arith, ints)) (omega (arith, ints))
