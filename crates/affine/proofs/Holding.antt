-- Forms that hold values, combined, hold the combined value.
use Rattle.std.proofs.Common.{◌≡◌, ℤ, pos, ◌+ℤ◌, ◌-ℤ◌, ◌*ℤ◌, neg_ℤ, ◌≤ℤ◌, sym, refl, ap, ap₂}
use Rattle.integer.specs.Numbers.{Within, absℤ}
use Rattle.integer.proofs.Ring.{ring, ◌:+◌, ◌:-◌, ◌:*◌, neg, ◌:=◌}
use Rattle.integer.proofs.Order.{weaker, ≥0_same, by_gap, product≥1, cancel≥0}
use Rattle.integer.proofs.Absolute.{under, over, bound≥0, within_same, within_abs, abs_of, within_self, within_neg, within_sum, within_product, within_cancel}
use Rattle.leg.specs.Places.{OnPiece}
use Rattle.leg.proofs.Places.{near_middle}
use Rattle.affine.specs.declared.Form.{Form}
use Rattle.affine.specs.Forms.{sum_of, scaled_by, shifted_by, opposite_of, product_of, low_end, high_end}
use Rattle.affine.specs.Holding.{missed, Holds}

module _ (m r p q : ℤ) where
  -- ---- linear operations

  pub holds_sum : (u v : Form) (n k d : ℤ) → Holds m r p q u n d → Holds m r p q v k d → Holds m r p q (sum_of u v) (n +ℤ k) d
  holds_sum u v n k d h g = record {
    bottom = h.bottom;
    close = within_same (within_sum h.close g.close)
        (ring 10 (λ r q t n u0 u1 k v0 v1 d.
        (r :* (q :* n :- u0 :* q :* d) :- u1 :* d :* t) :+ (r :* (q :* k :- v0 :* q :* d) :- v1 :* d :* t)
        := r :* (q :* (n :+ k) :- (u0 :+ v0) :* q :* d) :- (u1 :+ v1) :* d :* t) refl
        r q (p -ℤ m *ℤ q) n u.u0 u.u1 k v.u0 v.u1 d)
        (ring 5 (λ u2 v2 r q d. u2 :* r :* q :* d :+ v2 :* r :* q :* d := (u2 :+ v2) :* r :* q :* d) refl u.u2 v.u2 r q d);
  }

  pub scaled_holds : (k : ℤ) (u : Form) (n d : ℤ) → Holds m r p q u n d → Holds m r p q (scaled_by k u) (k *ℤ n) d
  scaled_holds k u n d h = record {
    bottom = h.bottom;
    close = within_same (within_product (within_abs k) h.close)
        (ring 8 (λ k r q t n d u0 u1. k :* (r :* (q :* n :- u0 :* q :* d) :- u1 :* d :* t) := r :* (q :* (k :* n) :- (k :* u0) :* q :* d) :- (k :* u1) :* d :* t) refl
        k r q (p -ℤ m *ℤ q) n d u.u0 u.u1)
        (ring 5 (λ a u2 r q d. a :* (u2 :* r :* q :* d) := (a :* u2) :* r :* q :* d) refl (absℤ k) u.u2 r q d);
  }

  -- n/d + k is (n + k d)/d
  pub shifted_holds : (k : ℤ) (u : Form) (n d : ℤ) → Holds m r p q u n d → Holds m r p q (shifted_by k u) (n +ℤ k *ℤ d) d
  shifted_holds k u n d h = record {
    bottom = h.bottom;
    close = within_same h.close
        (ring 8 (λ k r q t n d u0 u1. r :* (q :* n :- u0 :* q :* d) :- u1 :* d :* t := r :* (q :* (n :+ k :* d) :- (u0 :+ k) :* q :* d) :- u1 :* d :* t) refl
        k r q (p -ℤ m *ℤ q) n d u.u0 u.u1)
        refl;
  }

  pub holds_opposite : (u : Form) (n d : ℤ) → Holds m r p q u n d → Holds m r p q (opposite_of u) (neg_ℤ n) d
  holds_opposite u n d h = record {
    bottom = h.bottom;
    close = within_same (within_neg h.close)
        (ring 7 (λ r q t n d u0 u1. neg (r :* (q :* n :- u0 :* q :* d) :- u1 :* d :* t) := r :* (q :* neg n :- neg u0 :* q :* d) :- neg u1 :* d :* t) refl
        r q (p -ℤ m *ℤ q) n d u.u0 u.u1)
        refl;
  }

  -- the same value over a greater bottom, k n / k d: to bring two values over one bottom
  pub rescaled_holds : (k : ℤ) (u : Form) (n d : ℤ) → pos 1 ≤ℤ k → Holds m r p q u n d → Holds m r p q u (k *ℤ n) (k *ℤ d)
  rescaled_holds k u n d k≥1 h = record {
    bottom = product≥1 k≥1 h.bottom;
    close = within_same (within_product (within_self (weaker k≥1)) h.close)
        (ring 8 (λ k r q t n d u0 u1. k :* (r :* (q :* n :- u0 :* q :* d) :- u1 :* d :* t) := r :* (q :* (k :* n) :- u0 :* q :* (k :* d)) :- u1 :* (k :* d) :* t) refl
        k r q (p -ℤ m *ℤ q) n d u.u0 u.u1)
        (ring 5 (λ k u2 r q d. k :* (u2 :* r :* q :* d) := u2 :* r :* q :* (k :* d)) refl k u.u2 r q d);
  }

  module _ (at : OnPiece m r p q) where
    K≥1 : pos 1 ≤ℤ (r *ℤ q)
    K≥1 = product≥1 at.wide at.parts

    -- a form that holds a value has no negative third number
    pub spread≥0 : (u : Form) (n d : ℤ) → Holds m r p q u n d → pos 0 ≤ℤ u.u2
    spread≥0 u n d h =
        cancel≥0 (r *ℤ q *ℤ d) u.u2 (product≥1 K≥1 h.bottom)
        (≥0_same (bound≥0 h.close) (ring 4 (λ r q d u2. u2 :* r :* q :* d := r :* q :* d :* u2) refl r q d u.u2))

    -- ---- the ends

    -- r q (n − u0 d) is at most (|u1| + u2) r q d in absolute value
    from_base : (u : Form) (n d : ℤ) → Holds m r p q u n d → Within (r *ℤ q *ℤ (n -ℤ u.u0 *ℤ d)) (r *ℤ q *ℤ ((absℤ u.u1 +ℤ u.u2) *ℤ d))
    from_base u n d h =
        within_same
        (within_sum h.close (within_product (within_product (within_abs u.u1) (within_self (weaker h.bottom))) (near_middle at)))
        (ring 7 (λ r q t n d u0 u1. (r :* (q :* n :- u0 :* q :* d) :- u1 :* d :* t) :+ u1 :* d :* t := r :* q :* (n :- u0 :* d)) refl
        r q (p -ℤ m *ℤ q) n d u.u0 u.u1)
        (ring 5 (λ r q d a u2. u2 :* r :* q :* d :+ a :* d :* (r :* q) := r :* q :* ((a :+ u2) :* d)) refl r q d (absℤ u.u1) u.u2)

    near_base : (u : Form) (n d : ℤ) → Holds m r p q u n d → Within (n -ℤ u.u0 *ℤ d) ((absℤ u.u1 +ℤ u.u2) *ℤ d)
    near_base u n d h = within_cancel (r *ℤ q) _ _ K≥1 (from_base u n d h)

    pub above_low : (u : Form) (n d : ℤ) → Holds m r p q u n d → (low_end u *ℤ d) ≤ℤ n
    above_low u n d h =
        by_gap (low_end u *ℤ d) n _ (over (near_base u n d h))
        (ring 5 (λ n d u0 a u2. (a :+ u2) :* d :+ (n :- u0 :* d) := n :- (u0 :- a :- u2) :* d) refl n d u.u0 (absℤ u.u1) u.u2)

    pub below_high : (u : Form) (n d : ℤ) → Holds m r p q u n d → n ≤ℤ (high_end u *ℤ d)
    below_high u n d h =
        by_gap n (high_end u *ℤ d) _ (under (near_base u n d h))
        (ring 5 (λ n d u0 a u2. (a :+ u2) :* d :- (n :- u0 :* d) := (u0 :+ a :+ u2) :* d :- n) refl n d u.u0 (absℤ u.u1) u.u2)

    -- ---- the product
    -- With K = r q, P = K (n − u0 d) and A = `missed`, so that P = A + u1 d t, and the same for v with Q and B:
    --   K · missed (product_of u v) = P Q + K u0 d · B + K v0 e · A.
    -- Each of the three is bounded by the bounds of its factors, the sum of the bounds is K times the bound that is wanted, and K is taken away.

    -- the third number of the product, where |u2| and |v2| are u2 and v2
    third : Form → Form → ℤ
    third u v = absℤ u.u0 *ℤ v.u2 +ℤ absℤ v.u0 *ℤ u.u2 +ℤ (absℤ u.u1 +ℤ u.u2) *ℤ (absℤ v.u1 +ℤ v.u2)

    product_close : (u v : Form) (n d k e : ℤ) → Holds m r p q u n d → Holds m r p q v k e →
        Within (r *ℤ q *ℤ missed m r p q (product_of u v) (n *ℤ k) (d *ℤ e)) (r *ℤ q *ℤ (third u v *ℤ r *ℤ q *ℤ (d *ℤ e)))
    unfolding product_of third
    product_close u v n d k e h g =
        let K≥0 : Within (r *ℤ q) (r *ℤ q) = within_self (weaker K≥1) in
        let d≥0 : Within d d = within_self (weaker h.bottom) in
        let e≥0 : Within e e = within_self (weaker g.bottom) in
        within_same
        (within_sum
        (within_sum
        (within_product (from_base u n d h) (from_base v k e g))
        (within_product (within_product (within_product K≥0 (within_abs u.u0)) d≥0) g.close))
        (within_product (within_product (within_product K≥0 (within_abs v.u0)) e≥0) h.close))
        (ring 11 (λ r q t n d k e u0 u1 v0 v1.
        (r :* q :* (n :- u0 :* d)) :* (r :* q :* (k :- v0 :* e))
        :+ (r :* q) :* u0 :* d :* (r :* (q :* k :- v0 :* q :* e) :- v1 :* e :* t)
        :+ (r :* q) :* v0 :* e :* (r :* (q :* n :- u0 :* q :* d) :- u1 :* d :* t)
        := r :* q :* (r :* (q :* (n :* k) :- (u0 :* v0) :* q :* (d :* e)) :- (u0 :* v1 :+ v0 :* u1) :* (d :* e) :* t)) refl
        r q (p -ℤ m *ℤ q) n d k e u.u0 u.u1 v.u0 v.u1)
        (ring 10 (λ r q d e a0 a1 u2 b0 b1 v2.
        (r :* q :* ((a1 :+ u2) :* d)) :* (r :* q :* ((b1 :+ v2) :* e))
        :+ (r :* q) :* a0 :* d :* (v2 :* r :* q :* e)
        :+ (r :* q) :* b0 :* e :* (u2 :* r :* q :* d)
        := r :* q :* ((a0 :* v2 :+ b0 :* u2 :+ (a1 :+ u2) :* (b1 :+ v2)) :* r :* q :* (d :* e))) refl
        r q d e (absℤ u.u0) (absℤ u.u1) u.u2 (absℤ v.u0) (absℤ v.u1) v.u2)

    third_is : (u v : Form) → pos 0 ≤ℤ u.u2 → pos 0 ≤ℤ v.u2 → third u v ≡ (product_of u v).u2
    unfolding product_of third
    third_is u v h k =
        ap (λ (x : ℤ). absℤ u.u0 *ℤ v.u2 +ℤ absℤ v.u0 *ℤ u.u2 +ℤ x)
        (ap₂ ◌*ℤ◌ (ap (λ (x : ℤ). absℤ u.u1 +ℤ x) (sym (abs_of h))) (ap (λ (x : ℤ). absℤ v.u1 +ℤ x) (sym (abs_of k))))

    pub product_holds : (u v : Form) (n d k e : ℤ) → Holds m r p q u n d → Holds m r p q v k e → Holds m r p q (product_of u v) (n *ℤ k) (d *ℤ e)
    product_holds u v n d k e h g = record {
      bottom = product≥1 h.bottom g.bottom;
      close = within_same (within_cancel (r *ℤ q) _ _ K≥1 (product_close u v n d k e h g)) refl
          (ap (λ (x : ℤ). x *ℤ r *ℤ q *ℤ (d *ℤ e)) (third_is u v (spread≥0 u n d h) (spread≥0 v k e g)));
    }
