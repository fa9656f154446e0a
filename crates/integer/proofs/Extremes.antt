-- The lesser and the greater of two whole numbers.
use Rattle.std.proofs.Common.{◌≡◌, Bool, true, false, cond, ℤ, ◌≤ℤ◌, arith}
use lib.Signed.{lt_z}
use borrow.Author.Differences.{ints}
use Rattle.std.specs.Int.{int_min, int_max}
use Rattle.std.proofs.lemmas.Int.{clamps}

-- what both of two values have, either choice between them has
either : (t : Bool) {a b : ℤ} (P : ℤ → Type 0) → P a → P b → P (cond t a b)
either true P x y = x
either false P x y = y

pub min_first : (a b : ℤ) → int_min a b ≤ℤ a
min_first a b = omega (arith, ints, clamps)

pub min_second : (a b : ℤ) → int_min a b ≤ℤ b
min_second a b = omega (arith, ints, clamps)

pub min_greatest : {a b c : ℤ} → c ≤ℤ a → c ≤ℤ b → c ≤ℤ int_min a b
min_greatest {a} {b} {c} h k = omega (arith, ints, clamps)

pub min_is_first : {a b : ℤ} → a ≤ℤ b → int_min a b ≡ a
min_is_first {a} {b} h = omega (arith, ints, clamps)

pub min_is_second : {a b : ℤ} → b ≤ℤ a → int_min a b ≡ b
min_is_second {a} {b} h = omega (arith, ints, clamps)

pub min_has : (a b : ℤ) (P : ℤ → Type 0) → P a → P b → P (int_min a b)
min_has a b P x y = either (lt_z b a) P y x

pub max_first : (a b : ℤ) → a ≤ℤ int_max a b
max_first a b = omega (arith, ints, clamps)

pub max_second : (a b : ℤ) → b ≤ℤ int_max a b
max_second a b = omega (arith, ints, clamps)

pub max_least : {a b c : ℤ} → a ≤ℤ c → b ≤ℤ c → int_max a b ≤ℤ c
max_least {a} {b} {c} h k = omega (arith, ints, clamps)

pub max_is_first : {a b : ℤ} → b ≤ℤ a → int_max a b ≡ a
max_is_first {a} {b} h = omega (arith, ints, clamps)

pub max_is_second : {a b : ℤ} → a ≤ℤ b → int_max a b ≡ b
max_is_second {a} {b} h = omega (arith, ints, clamps)

pub max_has : (a b : ℤ) (P : ℤ → Type 0) → P a → P b → P (int_max a b)
max_has a b P x y = either (lt_z b a) P x y
