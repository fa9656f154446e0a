-- The lesser and the greater of two forms.
use Rattle.std.proofs.Common.{◌≡◌, Bool, true, false, cond, not, T, ℤ, pos, ◌+ℤ◌, ◌-ℤ◌, ◌*ℤ◌, ◌≤ℤ◌, ◌<ℤ◌, sym, refl, subst, arith}
use lib.Signed.{le_z, le_z_yes}
use borrow.Author.Differences.{ints}
use Rattle.std.specs.Int.{int_min, int_max}
use Rattle.std.proofs.lemmas.Int.{clamps}
use Rattle.integer.specs.Numbers.{RoundedUp}
use Rattle.integer.proofs.Ring.{ring, ◌:+◌, ◌:-◌, ◌:*◌, con, ◌:=◌}
use Rattle.integer.proofs.Order.{≤ℤ_trans, weaker, gap, ≥0_same, sum≥0, product≥0, product≥1, times_right≤}
use Rattle.integer.proofs.Absolute.{within_from}
use Rattle.integer.proofs.Division.{ceiling_rounds}
use Rattle.integer.proofs.Extremes.{min_first, min_second, min_greatest, min_is_first, min_is_second, min_has, max_first, max_second, max_least, max_is_first, max_is_second, max_has}
use Rattle.leg.specs.Places.{OnPiece}
use Rattle.affine.specs.declared.Form.{Form}
use Rattle.affine.specs.Forms.{low_end, high_end, centre, span_of, lesser_of, greater_of}
use Rattle.affine.specs.Holding.{Holds}
use Rattle.affine.proofs.Ends.{low≤high}
use Rattle.affine.proofs.Holding.{above_low, below_high}

-- a test's two cases
by_test : (t : Bool) {x y : Form} (P : Form → Type 0) → (T t → P x) → (T (not t) → P y) → P (cond t x y)
by_test true P f g = f tt
by_test false P f g = g tt

-- lo + hi ≤ 2 c ≤ lo + hi + 1
centre_rounds : (lo hi : ℤ) → RoundedUp (lo +ℤ hi) (pos 2) (centre lo hi)
centre_rounds lo hi = ceiling_rounds (lo +ℤ hi) (pos 2) (record { le = tt })

-- ---- all numbers from lo to hi

span_kept : (lo hi : ℤ) → lo ≤ℤ hi → pos 0 ≤ℤ (span_of lo hi).u2
span_kept lo hi h = go (centre lo hi) (centre_rounds lo hi).above
  where
    go : (c : ℤ) → (lo +ℤ hi) ≤ℤ (pos 2 *ℤ c) → pos 0 ≤ℤ (c -ℤ lo)
    go c k = omega (arith, ints)

span_low : (lo hi : ℤ) → low_end (span_of lo hi) ≡ lo
span_low lo hi = go (centre lo hi)
  where
    go : (c : ℤ) → c -ℤ pos 0 -ℤ (c -ℤ lo) ≡ lo
    go c = omega (arith, ints)

span_high : (lo hi : ℤ) → high_end (span_of lo hi) ≤ℤ (hi +ℤ pos 1)
span_high lo hi = let r = centre_rounds lo hi in go (centre lo hi) (pos 2 *ℤ centre lo hi) refl r.below
  where
    go : (c x : ℤ) → x ≡ pos 2 *ℤ c → x <ℤ (lo +ℤ hi +ℤ pos 2) → (c +ℤ pos 0 +ℤ (c -ℤ lo)) ≤ℤ (hi +ℤ pos 1)
    go c x e k = omega (arith, ints)

span_holds : (m r p q : ℤ) → OnPiece m r p q → (lo hi n d : ℤ) → pos 1 ≤ℤ d → (lo *ℤ d) ≤ℤ n → n ≤ℤ (hi *ℤ d) → Holds m r p q (span_of lo hi) n d
span_holds m r p q at lo hi n d d≥1 lower upper =
    let K≥0 : pos 0 ≤ℤ (r *ℤ q) = weaker (product≥1 at.wide at.parts) in
    let twice : pos 0 ≤ℤ (pos 2 *ℤ centre lo hi -ℤ (lo +ℤ hi)) = gap (centre_rounds lo hi).above in
    record {
      bottom = d≥1;
      close = within_from _ _
          (≥0_same (product≥0 K≥0 (sum≥0 (product≥0 twice (weaker d≥1)) (gap upper)))
          (ring 8 (λ r q t n d c lo hi.
          (r :* q) :* ((con (pos 2) :* c :- (lo :+ hi)) :* d :+ (hi :* d :- n))
          := (c :- lo) :* r :* q :* d :- (r :* (q :* n :- c :* q :* d) :- con (pos 0) :* d :* t)) refl r q (p -ℤ m *ℤ q) n d (centre lo hi) lo hi))
          (≥0_same (product≥0 K≥0 (gap lower))
          (ring 7 (λ r q t n d c lo.
          (r :* q) :* (n :- lo :* d)
          := (c :- lo) :* r :* q :* d :+ (r :* (q :* n :- c :* q :* d) :- con (pos 0) :* d :* t)) refl r q (p -ℤ m *ℤ q) n d (centre lo hi) lo));
    }

-- ---- they hold the lesser and the greater value

module _ (m r p q : ℤ) (at : OnPiece m r p q) (u v : Form) (n k d : ℤ) (h : Holds m r p q u n d) (g : Holds m r p q v k d) where
  d≥0 : pos 0 ≤ℤ d
  d≥0 = weaker h.bottom

  -- a form that ends before the other begins has the lesser value
  u_below : high_end u ≤ℤ low_end v → n ≤ℤ k
  u_below t = ≤ℤ_trans (below_high m r p q at u n d h) (≤ℤ_trans (times_right≤ d≥0 t) (above_low m r p q at v k d g))

  v_below : high_end v ≤ℤ low_end u → k ≤ℤ n
  v_below t = ≤ℤ_trans (below_high m r p q at v k d g) (≤ℤ_trans (times_right≤ d≥0 t) (above_low m r p q at u n d h))

  pub holds_lesser : Holds m r p q (lesser_of u v) (int_min n k) d
  unfolding lesser_of
  holds_lesser =
      by_test (le_z (high_end u) (low_end v)) HoldsLesser
      (λ t. subst (λ (x : ℤ). Holds m r p q u x d) (sym (min_is_first (u_below (le_z_yes t)))) h)
      (λ _. by_test (le_z (high_end v) (low_end u)) HoldsLesser
      (λ t. subst (λ (x : ℤ). Holds m r p q v x d) (sym (min_is_second (v_below (le_z_yes t)))) g)
      (λ _. span_holds m r p q at (int_min (low_end u) (low_end v)) (int_min (high_end u) (high_end v)) (int_min n k) d h.bottom
      (min_greatest
      (≤ℤ_trans (times_right≤ d≥0 (min_first (low_end u) (low_end v))) (above_low m r p q at u n d h))
      (≤ℤ_trans (times_right≤ d≥0 (min_second (low_end u) (low_end v))) (above_low m r p q at v k d g)))
      (min_has (high_end u) (high_end v) (λ (x : ℤ). int_min n k ≤ℤ (x *ℤ d))
      (≤ℤ_trans (min_first n k) (below_high m r p q at u n d h))
      (≤ℤ_trans (min_second n k) (below_high m r p q at v k d g)))))
    where
      HoldsLesser : Form → Type 0
      HoldsLesser w = Holds m r p q w (int_min n k) d

  pub holds_greater : Holds m r p q (greater_of u v) (int_max n k) d
  unfolding greater_of
  holds_greater =
      by_test (le_z (high_end v) (low_end u)) HoldsGreater
      (λ t. subst (λ (x : ℤ). Holds m r p q u x d) (sym (max_is_first (v_below (le_z_yes t)))) h)
      (λ _. by_test (le_z (high_end u) (low_end v)) HoldsGreater
      (λ t. subst (λ (x : ℤ). Holds m r p q v x d) (sym (max_is_second (u_below (le_z_yes t)))) g)
      (λ _. span_holds m r p q at (int_max (low_end u) (low_end v)) (int_max (high_end u) (high_end v)) (int_max n k) d h.bottom
      (max_has (low_end u) (low_end v) (λ (x : ℤ). (x *ℤ d) ≤ℤ int_max n k)
      (≤ℤ_trans (above_low m r p q at u n d h) (max_first n k))
      (≤ℤ_trans (above_low m r p q at v k d g) (max_second n k)))
      (max_least
      (≤ℤ_trans (below_high m r p q at u n d h) (times_right≤ d≥0 (max_first (high_end u) (high_end v))))
      (≤ℤ_trans (below_high m r p q at v k d g) (times_right≤ d≥0 (max_second (high_end u) (high_end v)))))))
    where
      HoldsGreater : Form → Type 0
      HoldsGreater w = Holds m r p q w (int_max n k) d

-- ---- their ends: the low end is exact, and the rounding of the centre costs the high end at most 1

pub record EndsOf (pick : ℤ → ℤ → ℤ) (u v w : Form) : Type 0 where
  pub kept : pos 0 ≤ℤ w.u2
  pub low : low_end w ≡ pick (low_end u) (low_end v)
  pub high : high_end w ≤ℤ (pick (high_end u) (high_end v) +ℤ pos 1)

-- the ends of two forms of which the first ends before the second begins: a ≤ b ≤ c ≤ d
record Apart (a b c d : ℤ) : Type 0 where
  lesser_low : a ≡ int_min a c
  lesser_high : b ≤ℤ (int_min b d +ℤ pos 1)
  lesser_low_turned : a ≡ int_min c a
  lesser_high_turned : b ≤ℤ (int_min d b +ℤ pos 1)
  greater_low : c ≡ int_max a c
  greater_high : d ≤ℤ (int_max b d +ℤ pos 1)
  greater_low_turned : c ≡ int_max c a
  greater_high_turned : d ≤ℤ (int_max d b +ℤ pos 1)

apart : {a b c d : ℤ} → a ≤ℤ b → b ≤ℤ c → c ≤ℤ d → Apart a b c d
apart {a} {b} {c} {d} h k l = record {
  lesser_low = omega (arith, ints, clamps);
  lesser_high = omega (arith, ints, clamps);
  lesser_low_turned = omega (arith, ints, clamps);
  lesser_high_turned = omega (arith, ints, clamps);
  greater_low = omega (arith, ints, clamps);
  greater_high = omega (arith, ints, clamps);
  greater_low_turned = omega (arith, ints, clamps);
  greater_high_turned = omega (arith, ints, clamps);
}

min_ordered : {a b c d : ℤ} → a ≤ℤ b → c ≤ℤ d → int_min a c ≤ℤ int_min b d
min_ordered {a} {b} {c} {d} h k = omega (arith, ints, clamps)

max_ordered : {a b c d : ℤ} → a ≤ℤ b → c ≤ℤ d → int_max a c ≤ℤ int_max b d
max_ordered {a} {b} {c} {d} h k = omega (arith, ints, clamps)

module _ (u v : Form) (u2≥0 : pos 0 ≤ℤ u.u2) (v2≥0 : pos 0 ≤ℤ v.u2) where
  u_ordered : low_end u ≤ℤ high_end u
  u_ordered = low≤high u u2≥0

  v_ordered : low_end v ≤ℤ high_end v
  v_ordered = low≤high v v2≥0

  pub lesser_ends : EndsOf int_min u v (lesser_of u v)
  unfolding lesser_of
  lesser_ends =
      by_test (le_z (high_end u) (low_end v)) (EndsOf int_min u v)
      (λ t. let ends = apart u_ordered (le_z_yes t) v_ordered in record { kept = u2≥0; low = ends.lesser_low; high = ends.lesser_high })
      (λ _. by_test (le_z (high_end v) (low_end u)) (EndsOf int_min u v)
      (λ t. let ends = apart v_ordered (le_z_yes t) u_ordered in record { kept = v2≥0; low = ends.lesser_low_turned; high = ends.lesser_high_turned })
      (λ _. record { kept = span_kept _ _ (min_ordered u_ordered v_ordered); low = span_low _ _; high = span_high (int_min (low_end u) (low_end v)) _ }))

  pub greater_ends : EndsOf int_max u v (greater_of u v)
  unfolding greater_of
  greater_ends =
      by_test (le_z (high_end v) (low_end u)) (EndsOf int_max u v)
      (λ t. let ends = apart v_ordered (le_z_yes t) u_ordered in record { kept = u2≥0; low = ends.greater_low_turned; high = ends.greater_high_turned })
      (λ _. by_test (le_z (high_end u) (low_end v)) (EndsOf int_max u v)
      (λ t. let ends = apart u_ordered (le_z_yes t) v_ordered in record { kept = v2≥0; low = ends.greater_low; high = ends.greater_high })
      (λ _. record { kept = span_kept _ _ (max_ordered u_ordered v_ordered); low = span_low _ _; high = span_high (int_max (low_end u) (low_end v)) _ }))

-- ---- the three cases of each, by what its two tests say

pub lesser_first : (u v : Form) → le_z (high_end u) (low_end v) ≡ true → u ≡ lesser_of u v
unfolding lesser_of
lesser_first u v s = rw s

pub lesser_second : (u v : Form) → le_z (high_end u) (low_end v) ≡ false → le_z (high_end v) (low_end u) ≡ true → v ≡ lesser_of u v
unfolding lesser_of
lesser_second u v s t = rw (s, t)

pub lesser_neither : (u v : Form) → le_z (high_end u) (low_end v) ≡ false → le_z (high_end v) (low_end u) ≡ false → span_of (int_min (low_end u) (low_end v)) (int_min (high_end u) (high_end v)) ≡ lesser_of u v
unfolding lesser_of
lesser_neither u v s t = rw (s, t)

pub greater_first : (u v : Form) → le_z (high_end v) (low_end u) ≡ true → u ≡ greater_of u v
unfolding greater_of
greater_first u v s = rw s

pub greater_second : (u v : Form) → le_z (high_end v) (low_end u) ≡ false → le_z (high_end u) (low_end v) ≡ true → v ≡ greater_of u v
unfolding greater_of
greater_second u v s t = rw (s, t)

pub greater_neither : (u v : Form) → le_z (high_end v) (low_end u) ≡ false → le_z (high_end u) (low_end v) ≡ false → span_of (int_max (low_end u) (low_end v)) (int_max (high_end u) (high_end v)) ≡ greater_of u v
unfolding greater_of
greater_neither u v s t = rw (s, t)
