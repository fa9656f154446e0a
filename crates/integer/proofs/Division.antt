-- Division by a positive number, rounded down and up: each quotient is the only whole number within its two bounds.
use Rattle.std.proofs.Common.{◌≡◌, zero, suc, ◌/◌, ◌%◌, ◌<◌, ℤ, pos, negsuc, ◌+ℤ◌, ◌-ℤ◌, ◌*ℤ◌, neg_ℤ, ◌≤ℤ◌, ◌<ℤ◌, sym, refl, ap, ◌∙◌, subst, mod-lt, mul-suc, arith}
use native.Mathlib.Nat.{div-add-mod}
use lib.IntN.{neg_ℤ-neg_ℤ}
use borrow.Author.Differences.{ints}
use Rattle.integer.specs.Numbers.{floor_by, ceiling_by, RoundedDown, RoundedUp}
use Rattle.integer.proofs.Ring.{ring, ◌:+◌, ◌:-◌, ◌:*◌, con, neg, ◌:=◌}

pub floor_rounds : (z d : ℤ) → pos 1 ≤ℤ d → RoundedDown z d (floor_by z d)
floor_rounds z (pos zero) h = absurd (omega (arith, ints))
floor_rounds (pos a) (pos (suc d)) h =
    let parts = div-add-mod a (suc d) in let rest : a % suc d < suc d = mod-lt a (omega arith) in
    record { below = omega (arith, ints); above = omega (arith, ints) }
floor_rounds (negsuc a) (pos (suc d)) h =
    let parts = div-add-mod a (suc d) in let rest : a % suc d < suc d = mod-lt a (omega arith) in
    let more = mul-suc (suc d) (a / suc d) in
    record { below = omega (arith, ints); above = omega (arith, ints) }
floor_rounds z (negsuc d) h = absurd h.le

-- d (q + 1 − q') ≥ 1, so q' ≤ q
below_next : (d q q' : ℤ) → pos 1 ≤ℤ d → (d *ℤ q') <ℤ (d *ℤ q +ℤ d) → q' ≤ℤ q
below_next d q q' h l = less_one (positive d (q +ℤ pos 1 -ℤ q') h (same (ring 3 (λ d q q'. (d :* q :+ d) :- d :* q' := d :* (q :+ con (pos 1) :- q')) refl d q q')))
  where
    apart : (a b : ℤ) → a <ℤ b → pos 1 ≤ℤ (b -ℤ a)
    apart a b k = omega (arith, ints)

    same : (d *ℤ q +ℤ d) -ℤ d *ℤ q' ≡ d *ℤ (q +ℤ pos 1 -ℤ q') → pos 1 ≤ℤ (d *ℤ (q +ℤ pos 1 -ℤ q'))
    same e = subst (λ (x : ℤ). pos 1 ≤ℤ x) e (apart (d *ℤ q') (d *ℤ q +ℤ d) l)

    less_one : pos 1 ≤ℤ (q +ℤ pos 1 -ℤ q') → q' ≤ℤ q
    less_one k = omega (arith, ints)

    positive : (k x : ℤ) → pos 1 ≤ℤ k → pos 1 ≤ℤ (k *ℤ x) → pos 1 ≤ℤ x
    positive (pos k) (pos zero) i n = absurd (omega (arith, ints))
    positive (pos k) (pos (suc x)) i n = omega (arith, ints)
    positive (pos zero) (negsuc x) i n = absurd (omega (arith, ints))
    positive (pos (suc k)) (negsuc x) i n = absurd (omega (arith, ints))
    positive (negsuc k) x i n = absurd i.le

pub floor_only : (z d q : ℤ) → pos 1 ≤ℤ d → RoundedDown z d q → q ≡ floor_by z d
floor_only z d q h r =
    let s = floor_rounds z d h in
    both (below_next d (floor_by z d) q h (meet r.below s.above)) (below_next d q (floor_by z d) h (meet s.below r.above))
  where
    meet : {a b c : ℤ} → a ≤ℤ b → b <ℤ c → a <ℤ c
    meet {a} {b} {c} k l = omega (arith, ints)

    both : {a b : ℤ} → a ≤ℤ b → b ≤ℤ a → a ≡ b
    both {a} {b} k l = omega (arith, ints)

-- a number rounded up is the opposite of its opposite rounded down
turned_up : (z d q : ℤ) → RoundedDown (neg_ℤ z) d q → RoundedUp z d (neg_ℤ q)
turned_up z d q r = record {
  above = low (d *ℤ q) (d *ℤ neg_ℤ q) turned r.below;
  below = high (d *ℤ q) (d *ℤ neg_ℤ q) turned r.above;
}
  where
    turned : d *ℤ neg_ℤ q ≡ neg_ℤ (d *ℤ q)
    turned = ring 2 (λ d q. d :* neg q := neg (d :* q)) refl d q

    low : (x y : ℤ) → y ≡ neg_ℤ x → x ≤ℤ neg_ℤ z → z ≤ℤ y
    low x y e k = omega (arith, ints)

    high : (x y : ℤ) → y ≡ neg_ℤ x → neg_ℤ z <ℤ (x +ℤ d) → y <ℤ (z +ℤ d)
    high x y e k = omega (arith, ints)

turned_down : (z d q : ℤ) → RoundedUp z d q → RoundedDown (neg_ℤ z) d (neg_ℤ q)
turned_down z d q r = record {
  below = low (d *ℤ q) (d *ℤ neg_ℤ q) turned r.above;
  above = high (d *ℤ q) (d *ℤ neg_ℤ q) turned r.below;
}
  where
    turned : d *ℤ neg_ℤ q ≡ neg_ℤ (d *ℤ q)
    turned = ring 2 (λ d q. d :* neg q := neg (d :* q)) refl d q

    low : (x y : ℤ) → y ≡ neg_ℤ x → z ≤ℤ x → y ≤ℤ neg_ℤ z
    low x y e k = omega (arith, ints)

    high : (x y : ℤ) → y ≡ neg_ℤ x → x <ℤ (z +ℤ d) → neg_ℤ z <ℤ (y +ℤ d)
    high x y e k = omega (arith, ints)

pub ceiling_rounds : (z d : ℤ) → pos 1 ≤ℤ d → RoundedUp z d (ceiling_by z d)
ceiling_rounds z d h = turned_up z d (floor_by (neg_ℤ z) d) (floor_rounds (neg_ℤ z) d h)

pub ceiling_only : (z d q : ℤ) → pos 1 ≤ℤ d → RoundedUp z d q → q ≡ ceiling_by z d
ceiling_only z d q h r = sym (neg_ℤ-neg_ℤ q) ∙ ap neg_ℤ (floor_only (neg_ℤ z) d (neg_ℤ q) h (turned_down z d q r))
