-- Absolute values, and values over a common bottom.
use Rattle.std.specs.Prelude.{◌≡◌, suc, Bool, true, false, not, T, ℤ, pos, negsuc, ◌+ℤ◌, ◌-ℤ◌, ◌*ℤ◌, neg_ℤ, ◌≤ℤ◌, int_le, refl}
use Rattle.std.proofs.Common.{ℕ, ◌≤◌, sym, ap, ap₂, ◌∙◌, le→leb}
use Rattle.std.proofs.Math.Nat.{le_of_lt}
use Rattle.std.proofs.Math.Dec.{nleb→lt}
use Rattle.std.proofs.Math.IntN.{neg_ℤ-neg_ℤ}
use Rattle.std.specs.Int.Signed.{le_z_yes}
use Rattle.std.specs.Int.{int_min, int_max}
use Rattle.integer.specs.Numbers.{Within, absℤ}
use Rattle.integer.proofs.Ring.{ring, ◌:+◌, ◌:-◌, ◌:*◌, neg, ◌:=◌}
use Rattle.integer.proofs.Order.{≤ℤ_trans, gap, by_gap, times_right≤}
use Rattle.integer.proofs.Absolute.{over}
use Rattle.integer.proofs.Extremes.{min_is_first, min_is_second, max_is_first, max_is_second}

-- natural numbers in their order are so as whole numbers
pub natural≤ : {a b : ℕ} → a ≤ b → pos a ≤ℤ pos b
natural≤ {a} {b} h = record { le = le→leb a b h }

-- two numbers whose sum and difference are within k
pub abs_both : (a b k : ℤ) → Within (a +ℤ b) k → Within (a -ℤ b) k → (absℤ a +ℤ absℤ b) ≤ℤ k
abs_both (pos a) (pos b) k v w = v.below
abs_both (pos a) (negsuc b) k v w = w.below
abs_both (negsuc a) (pos b) k v w = by_gap _ _ _ (over w) (ring 3 (λ k x y. k :+ (neg x :- y) := k :- (x :+ y)) refl k (pos (suc a)) (pos b))
abs_both (negsuc a) (negsuc b) k v w = by_gap _ _ _ (over v) (ring 3 (λ k x y. k :+ (neg x :+ neg y) := k :- (x :+ y)) refl k (pos (suc a)) (pos (suc b)))

pub square_abs : (e : ℤ) → e *ℤ e ≡ absℤ e *ℤ absℤ e
square_abs (pos n) = refl
square_abs (negsuc n) = refl

-- a height of the map
pub height_in : {z : ℤ} → negsuc 15 ≤ℤ z → z ≤ℤ pos 660 → Within z (pos 4096)
height_in {z} low high = record { above = ≤ℤ_trans (record { le = tt }) low; below = ≤ℤ_trans high (record { le = tt }) }

-- ---- a / k = a' / k', written a k' = a' k, is kept by each operation

pub sum_over : (a b a' b' k k' : ℤ) → a *ℤ k' ≡ a' *ℤ k → b *ℤ k' ≡ b' *ℤ k → (a +ℤ b) *ℤ k' ≡ (a' +ℤ b') *ℤ k
sum_over a b a' b' k k' e f =
    ring 3 (λ a b k. (a :+ b) :* k := a :* k :+ b :* k) refl a b k' ∙ ap₂ ◌+ℤ◌ e f ∙ ring 3 (λ a b k. a :* k :+ b :* k := (a :+ b) :* k) refl a' b' k

pub opposite_over : (a a' k k' : ℤ) → a *ℤ k' ≡ a' *ℤ k → neg_ℤ a *ℤ k' ≡ neg_ℤ a' *ℤ k
opposite_over a a' k k' e = ring 2 (λ a k. neg a :* k := neg (a :* k)) refl a k' ∙ ap neg_ℤ e ∙ ring 2 (λ a k. neg (a :* k) := neg a :* k) refl a' k

from_not : (a b : ℤ) → T (not (int_le a b)) → b ≤ℤ a
from_not (pos a) (pos b) t = record { le = le→leb b a (le_of_lt (nleb→lt a b t)) }
from_not (pos a) (negsuc b) t = record { le = tt }
from_not (negsuc a) (pos b) t = absurd t
from_not (negsuc a) (negsuc b) t = record { le = le→leb a b (le_of_lt (nleb→lt b a t)) }

-- one of two numbers is not above the other
in_order : (a b : ℤ) {X : Type 0} → (a ≤ℤ b → X) → (b ≤ℤ a → X) → X
in_order a b f g = go (int_le a b) (λ t. f (le_z_yes t)) (λ t. g (from_not a b t))
  where
    go : (t : Bool) {X : Type 0} → (T t → X) → (T (not t) → X) → X
    go true f g = f tt
    go false f g = g tt

times_min : (a b k : ℤ) → pos 0 ≤ℤ k → int_min a b *ℤ k ≡ int_min (a *ℤ k) (b *ℤ k)
times_min a b k k≥0 = in_order a b ordered other
  where
    ordered : a ≤ℤ b → int_min a b *ℤ k ≡ int_min (a *ℤ k) (b *ℤ k)
    ordered h = ap (λ (x : ℤ). x *ℤ k) (min_is_first h) ∙ sym (min_is_first (times_right≤ k≥0 h))

    other : b ≤ℤ a → int_min a b *ℤ k ≡ int_min (a *ℤ k) (b *ℤ k)
    other h = ap (λ (x : ℤ). x *ℤ k) (min_is_second h) ∙ sym (min_is_second (times_right≤ k≥0 h))

pub lesser_over : (a b a' b' k k' : ℤ) → pos 0 ≤ℤ k → pos 0 ≤ℤ k' → a *ℤ k' ≡ a' *ℤ k → b *ℤ k' ≡ b' *ℤ k → int_min a b *ℤ k' ≡ int_min a' b' *ℤ k
lesser_over a b a' b' k k' k≥0 k'≥0 e f = times_min a b k' k'≥0 ∙ ap₂ int_min e f ∙ sym (times_min a' b' k k≥0)

-- the greater is the opposite of the lesser of the opposites
max_by_min : (a b : ℤ) → int_max a b ≡ neg_ℤ (int_min (neg_ℤ a) (neg_ℤ b))
max_by_min a b =
    in_order a b
    (λ h. max_is_second h ∙ sym (neg_ℤ-neg_ℤ b) ∙ ap neg_ℤ (sym (min_is_second (turned a b h))))
    (λ h. max_is_first h ∙ sym (neg_ℤ-neg_ℤ a) ∙ ap neg_ℤ (sym (min_is_first (turned b a h))))
  where
    turned : (x y : ℤ) → x ≤ℤ y → neg_ℤ y ≤ℤ neg_ℤ x
    turned x y h = by_gap _ _ _ (gap h) (ring 2 (λ x y. y :- x := neg x :- neg y) refl x y)

pub greater_over : (a b a' b' k k' : ℤ) → pos 0 ≤ℤ k → pos 0 ≤ℤ k' → a *ℤ k' ≡ a' *ℤ k → b *ℤ k' ≡ b' *ℤ k → int_max a b *ℤ k' ≡ int_max a' b' *ℤ k
greater_over a b a' b' k k' k≥0 k'≥0 e f =
    ap (λ (x : ℤ). x *ℤ k') (max_by_min a b)
    ∙ opposite_over (int_min (neg_ℤ a) (neg_ℤ b)) (int_min (neg_ℤ a') (neg_ℤ b')) k k'
    (lesser_over (neg_ℤ a) (neg_ℤ b) (neg_ℤ a') (neg_ℤ b') k k' k≥0 k'≥0 (opposite_over a a' k k' e) (opposite_over b b' k k' f))
    ∙ ap (λ (x : ℤ). x *ℤ k) (sym (max_by_min a' b'))
