-- Absolute values, and |x| ≤ y as two bounds.
use Rattle.std.proofs.Common.{◌≡◌, ℕ, zero, suc, ◌≤◌, ℤ, pos, negsuc, ◌+ℤ◌, ◌-ℤ◌, ◌*ℤ◌, neg_ℤ, nat_abs, ◌≤ℤ◌, refl, subst₂, zero-le, arith, le→leb}
use borrow.Author.Differences.{ints}
use Rattle.integer.specs.Numbers.{Within, absℤ}
use Rattle.integer.proofs.Ring.{ring, ◌:+◌, ◌:-◌, ◌:*◌, con, ◌:=◌}
use Rattle.integer.proofs.Order.{≥0_same, gap, sum≥0, product≥0, cancel≥0}

-- ---- |x| ≤ y as two numbers that are at least 0

pub under : {x y : ℤ} → Within x y → pos 0 ≤ℤ (y -ℤ x)
under w = gap w.below

pub over : {x y : ℤ} → Within x y → pos 0 ≤ℤ (y +ℤ x)
over {x} {y} w = let h : neg_ℤ y ≤ℤ x = w.above in omega (arith, ints)

pub within_from : (x y : ℤ) → pos 0 ≤ℤ (y -ℤ x) → pos 0 ≤ℤ (y +ℤ x) → Within x y
within_from x y h k = record { above = omega (arith, ints); below = omega (arith, ints) }

pub within_same : {x y x' y' : ℤ} → Within x y → x ≡ x' → y ≡ y' → Within x' y'
within_same w e f = subst₂ Within e f w

pub within_wider : {x y y' : ℤ} → Within x y → y ≤ℤ y' → Within x y'
within_wider {x} {y} {y'} w h = let a = under w in let b = over w in within_from x y' (omega (arith, ints)) (omega (arith, ints))

pub bound≥0 : {x y : ℤ} → Within x y → pos 0 ≤ℤ y
bound≥0 {x} {y} w = let a = under w in let b = over w in omega (arith, ints)

-- ---- |x|

pub abs≥0 : (x : ℤ) → pos 0 ≤ℤ absℤ x
abs≥0 x = record { le = le→leb 0 (nat_abs x) zero-le }

pub abs_of : {x : ℤ} → pos 0 ≤ℤ x → absℤ x ≡ x
abs_of {x = pos n} h = refl
abs_of {x = negsuc n} h = absurd h.le

pub abs_neg : (x : ℤ) → absℤ (neg_ℤ x) ≡ absℤ x
abs_neg (pos zero) = refl
abs_neg (pos (suc n)) = refl
abs_neg (negsuc n) = refl

pub abs_product : (a b : ℤ) → absℤ (a *ℤ b) ≡ absℤ a *ℤ absℤ b
abs_product (pos a) (pos b) = refl
abs_product (pos a) (negsuc b) = abs_neg (pos a *ℤ pos (suc b))
abs_product (negsuc a) (pos b) = abs_neg (pos (suc a) *ℤ pos b)
abs_product (negsuc a) (negsuc b) = refl

pub within_abs : (x : ℤ) → Within x (absℤ x)
within_abs (pos n) = within_from (pos n) (pos n) (omega (arith, ints)) (omega (arith, ints))
within_abs (negsuc n) = within_from (negsuc n) (pos (suc n)) (omega (arith, ints)) (omega (arith, ints))

-- |x| is the least such bound
pub abs_least : {x y : ℤ} → Within x y → absℤ x ≤ℤ y
abs_least {x = pos n} {y} w = let a = under w in omega (arith, ints)
abs_least {x = negsuc n} {y} w = let a = over w in omega (arith, ints)

pub within_abs_self : {x y : ℤ} → Within x y → Within (absℤ x) y
within_abs_self {x} {y} w = let a = abs≥0 x in let b = abs_least w in let c = bound≥0 w in within_from (absℤ x) y (omega (arith, ints)) (omega (arith, ints))

pub within_natural : (x : ℤ) (n : ℕ) → nat_abs x ≤ n → Within x (pos n)
within_natural (pos a) n h = within_from (pos a) (pos n) (omega (arith, ints)) (omega (arith, ints))
within_natural (negsuc a) n h = within_from (negsuc a) (pos n) (omega (arith, ints)) (omega (arith, ints))

-- ---- how bounds combine

pub within_self : {x : ℤ} → pos 0 ≤ℤ x → Within x x
within_self {x} h = within_from x x (omega (arith, ints)) (omega (arith, ints))

pub within_neg : {x y : ℤ} → Within x y → Within (neg_ℤ x) y
within_neg {x} {y} w = let a = under w in let b = over w in within_from (neg_ℤ x) y (omega (arith, ints)) (omega (arith, ints))

pub within_sum : {x y x' y' : ℤ} → Within x y → Within x' y' → Within (x +ℤ x') (y +ℤ y')
within_sum {x} {y} {x'} {y'} v w =
    let a = under v in let b = over v in let c = under w in let d = over w in
    within_from (x +ℤ x') (y +ℤ y') (omega (arith, ints)) (omega (arith, ints))

-- 2 (y y' − x x') = (y − x)(y' + x') + (y + x)(y' − x'), and the same with the sign of x' turned
pub within_product : {x y x' y' : ℤ} → Within x y → Within x' y' → Within (x *ℤ x') (y *ℤ y')
within_product {x} {y} {x'} {y'} v w =
    within_from (x *ℤ x') (y *ℤ y')
    (cancel≥0 (pos 2) _ (record { le = tt }) (≥0_same (sum≥0 (product≥0 (under v) (over w)) (product≥0 (over v) (under w)))
    (ring 4 (λ x y x' y'. (y :- x) :* (y' :+ x') :+ (y :+ x) :* (y' :- x') := con (pos 2) :* (y :* y' :- x :* x')) refl x y x' y')))
    (cancel≥0 (pos 2) _ (record { le = tt }) (≥0_same (sum≥0 (product≥0 (under v) (under w)) (product≥0 (over v) (over w)))
    (ring 4 (λ x y x' y'. (y :- x) :* (y' :- x') :+ (y :+ x) :* (y' :+ x') := con (pos 2) :* (y :* y' :+ x :* x')) refl x y x' y')))

-- a positive factor can be taken away
pub within_cancel : (k x y : ℤ) → pos 1 ≤ℤ k → Within (k *ℤ x) (k *ℤ y) → Within x y
within_cancel k x y h w =
    within_from x y
    (cancel≥0 k (y -ℤ x) h (≥0_same (under w) (ring 3 (λ k x y. k :* y :- k :* x := k :* (y :- x)) refl k x y)))
    (cancel≥0 k (y +ℤ x) h (≥0_same (over w) (ring 3 (λ k x y. k :* y :+ k :* x := k :* (y :+ x)) refl k x y)))

-- |a + b| ≤ |a| + |b|
pub triangle : (a b : ℤ) → absℤ (a +ℤ b) ≤ℤ (absℤ a +ℤ absℤ b)
triangle a b = abs_least (within_sum (within_abs a) (within_abs b))
