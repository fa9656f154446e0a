-- Order on ℤ, and products. An inequality that is not linear is proved so: write a multiple of its difference, by `ring`, as a sum of products of numbers that are
-- at least 0.
use Rattle.std.proofs.Common.{◌≡◌, ℕ, zero, suc, ℤ, pos, negsuc, ◌+ℤ◌, ◌-ℤ◌, ◌*ℤ◌, ◌≤ℤ◌, refl, subst, arith}
use borrow.Author.Differences.{ints}
use Rattle.integer.proofs.Ring.{ring, ◌:+◌, ◌:-◌, ◌:*◌, con, ◌:=◌}

pub ≤ℤ_trans : {a b c : ℤ} → a ≤ℤ b → b ≤ℤ c → a ≤ℤ c
≤ℤ_trans {a} {b} {c} h k = omega (arith, ints)

-- ---- at least 0

pub natural≥0 : (n : ℕ) → pos 0 ≤ℤ pos n
natural≥0 n = omega (arith, ints)

pub weaker : {a : ℤ} → pos 1 ≤ℤ a → pos 0 ≤ℤ a
weaker {a} h = omega (arith, ints)

pub gap : {a b : ℤ} → a ≤ℤ b → pos 0 ≤ℤ (b -ℤ a)
gap {a} {b} h = omega (arith, ints)

from_gap : (a b : ℤ) → pos 0 ≤ℤ (b -ℤ a) → a ≤ℤ b
from_gap a b h = omega (arith, ints)

pub ≥0_same : {a b : ℤ} → pos 0 ≤ℤ a → a ≡ b → pos 0 ≤ℤ b
≥0_same h e = subst (λ (x : ℤ). pos 0 ≤ℤ x) e h

pub sum≥0 : {a b : ℤ} → pos 0 ≤ℤ a → pos 0 ≤ℤ b → pos 0 ≤ℤ (a +ℤ b)
sum≥0 {a} {b} h k = omega (arith, ints)

pub product≥0 : {a b : ℤ} → pos 0 ≤ℤ a → pos 0 ≤ℤ b → pos 0 ≤ℤ (a *ℤ b)
product≥0 {a = pos a} {b = pos b} h k = omega (arith, ints)
product≥0 {a = pos a} {b = negsuc b} h k = absurd k.le
product≥0 {a = negsuc a} {b} h k = absurd h.le

-- a ≤ b, where b − a equals a number that is at least 0
pub by_gap : (a b s : ℤ) → pos 0 ≤ℤ s → s ≡ b -ℤ a → a ≤ℤ b
by_gap a b s n e = from_gap a b (≥0_same n e)

-- a b − 1 = (a − 1)(b − 1) + (a − 1) + (b − 1)
pub product≥1 : {a b : ℤ} → pos 1 ≤ℤ a → pos 1 ≤ℤ b → pos 1 ≤ℤ (a *ℤ b)
product≥1 {a} {b} h k =
    by_gap (pos 1) (a *ℤ b) _ (sum≥0 (sum≥0 (product≥0 (gap h) (gap k)) (gap h)) (gap k))
    (ring 2 (λ a b. (a :- con (pos 1)) :* (b :- con (pos 1)) :+ (a :- con (pos 1)) :+ (b :- con (pos 1)) := a :* b :- con (pos 1)) refl a b)

-- ---- a factor put to both sides, and a positive one taken away

pub times≤ : {a b k : ℤ} → pos 0 ≤ℤ k → a ≤ℤ b → (k *ℤ a) ≤ℤ (k *ℤ b)
times≤ {a} {b} {k} h l = by_gap (k *ℤ a) (k *ℤ b) _ (product≥0 h (gap l)) (ring 3 (λ k a b. k :* (b :- a) := k :* b :- k :* a) refl k a b)

pub times_right≤ : {a b k : ℤ} → pos 0 ≤ℤ k → a ≤ℤ b → (a *ℤ k) ≤ℤ (b *ℤ k)
times_right≤ {a} {b} {k} h l = by_gap (a *ℤ k) (b *ℤ k) _ (product≥0 (gap l) h) (ring 3 (λ a b k. (b :- a) :* k := b :* k :- a :* k) refl a b k)

pub cancel≥0 : (k x : ℤ) → pos 1 ≤ℤ k → pos 0 ≤ℤ (k *ℤ x) → pos 0 ≤ℤ x
cancel≥0 (pos zero) x h n = absurd (omega (arith, ints))
cancel≥0 (pos (suc k)) (pos x) h n = omega (arith, ints)
cancel≥0 (pos (suc k)) (negsuc x) h n = absurd (omega (arith, ints))
cancel≥0 (negsuc k) x h n = absurd h.le

-- a ≤ b, where a positive multiple of b − a equals a number that is at least 0
pub by_multiple : (k a b s : ℤ) → pos 1 ≤ℤ k → pos 0 ≤ℤ s → s ≡ k *ℤ (b -ℤ a) → a ≤ℤ b
by_multiple k a b s h n e = from_gap a b (cancel≥0 k (b -ℤ a) h (≥0_same n e))

pub cancel≤ : (k a b : ℤ) → pos 1 ≤ℤ k → (k *ℤ a) ≤ℤ (k *ℤ b) → a ≤ℤ b
cancel≤ k a b h l = by_multiple k a b _ h (gap l) (ring 3 (λ k a b. k :* b :- k :* a := k :* (b :- a)) refl k a b)
