-- That an operation on forms fits 64 bits, from bounds on its arguments. The bounds are numerals, and `tt` proves each test of them.
use Rattle.std.proofs.Common.{ℕ, ◌+◌, ◌*◌, ◌≤◌, ℤ, pos, ◌+ℤ◌, ◌-ℤ◌, ◌*ℤ◌, ◌≤ℤ◌, arith}
use borrow.Author.Differences.{ints}
use Rattle.std.specs.Int.{int_min, int_max}
use Rattle.integer.specs.Numbers.{Within, absℤ, RoundedUp}
use Rattle.integer.proofs.Absolute.{under, over, abs≥0, within_abs, within_abs_self, within_from, within_neg, within_sum, within_product, within_wider}
use Rattle.integer.proofs.Division.{ceiling_rounds}
use Rattle.integer.proofs.Extremes.{min_has, max_has}
use Rattle.integer.proofs.Machine.{Fine, within_fits}
use Rattle.affine.specs.declared.Form.{Form}
use Rattle.affine.specs.Forms.{low_end, high_end, centre}
use Rattle.affine.specs.Fits.{Fits, SumFits, ScaledFits, ShiftedFits, OppositeFits, ReachFits, ProductFits, EndsFit, SpanFits, LesserFits, GreaterFits, Bounded, EndsWithin}

-- a number within a lesser bound than one that fits
within_below : {z : ℤ} (k l : ℕ) → Within z (pos k) → k ≤ l → Fine l → Fits z
within_below k l w h t = within_fits (within_wider w (go h)) t
  where
    go : k ≤ l → pos k ≤ℤ pos l
    go m = omega (arith, ints)

-- ---- by the size of the numbers

module _ {k l : ℕ} {u v : Form} (a : Bounded k u) (b : Bounded l v) where
  pub sum_fits : Fine (k + l) → SumFits u v
  sum_fits t = record {
    first = within_fits (within_sum a.first b.first) t;
    second = within_fits (within_sum a.second b.second) t;
    third = within_fits (within_sum a.third b.third) t;
  }

reach_fits : {k : ℕ} {u : Form} → Bounded k u → Fine (k + k) → ReachFits u
reach_fits {k} a t = record {
  slope = within_below k (k + k) (within_abs_self a.second) (omega arith) t;
  slack = within_below k (k + k) (within_abs_self a.third) (omega arith) t;
  sum = within_fits (within_sum (within_abs_self a.second) (within_abs_self a.third)) t;
}

pub opposite_fits : {k : ℕ} {u : Form} → Bounded k u → Fine k → OppositeFits u
opposite_fits a t = record { first = within_fits (within_neg a.first) t; second = within_fits (within_neg a.second) t }

pub scaled_fits : {k l : ℕ} {c : ℤ} {u : Form} → Within c (pos k) → Bounded l u → Fine k → Fine (k * l) → ScaledFits c u
scaled_fits w a s t = record {
  size = within_fits (within_abs_self w) s;
  first = within_fits (within_product w a.first) t;
  second = within_fits (within_product w a.second) t;
  third = within_fits (within_product (within_abs_self w) a.third) t;
}

pub shifted_fits : {k l : ℕ} {c : ℤ} {u : Form} → Within c (pos k) → Bounded l u → Fine (l + k) → ShiftedFits c u
shifted_fits w a t = record { first = within_fits (within_sum a.first w) t }

pub product_fits : {k l : ℕ} {u v : Form} → Bounded k u → Bounded l v → Fine (k + k) → Fine (l + l) → Fine (k * l + l * k + (k + k) * (l + l)) → ProductFits u v
product_fits {k} {l} {u} {v} a b s t f = record {
  left = reach_fits a s;
  right = reach_fits b t;
  left_size = within_below k (k + k) (within_abs_self a.first) (omega arith) s;
  right_size = within_below l (l + l) (within_abs_self b.first) (omega arith) t;
  first = part (k * l) (within_product a.first b.first) (omega arith);
  left_slope = part (k * l) (within_product a.first b.second) (omega arith);
  right_slope = part (l * k) (within_product b.first a.second) (omega arith);
  second = part (k * l + l * k) (within_sum (within_product a.first b.second) (within_product b.first a.second)) (omega arith);
  left_slack = part (k * l) left_slack (omega arith);
  right_slack = part (l * k) right_slack (omega arith);
  slack = part (k * l + l * k) (within_sum left_slack right_slack) (omega arith);
  cross = part ((k + k) * (l + l)) cross (omega arith);
  third = within_fits (within_sum (within_sum left_slack right_slack) cross) f;
}
  where
    part : {z : ℤ} (n : ℕ) → Within z (pos n) → n ≤ k * l + l * k + (k + k) * (l + l) → Fits z
    part n w h = within_below n (k * l + l * k + (k + k) * (l + l)) w h f

    left_slack : Within (absℤ u.u0 *ℤ v.u2) (pos (k * l))
    left_slack = within_product (within_abs_self a.first) b.third

    right_slack : Within (absℤ v.u0 *ℤ u.u2) (pos (l * k))
    right_slack = within_product (within_abs_self b.first) a.third

    cross : Within ((absℤ u.u1 +ℤ absℤ u.u2) *ℤ (absℤ v.u1 +ℤ absℤ v.u2)) (pos ((k + k) * (l + l)))
    cross = within_product (within_sum (within_abs_self a.second) (within_abs_self a.third)) (within_sum (within_abs_self b.second) (within_abs_self b.third))

-- ---- by the ends

-- what the bound on c − s − w and c + s + w bounds, where s and w are not negative
record Parts (c s w : ℤ) (k : ℕ) : Type 0 where
  centre : Within c (pos k)
  size : Within s (pos k)
  spread : Within w (pos k)
  less : Within (c -ℤ s) (pos k)
  more : Within (c +ℤ s) (pos k)

parts_within : (c s w : ℤ) (k : ℕ) → pos 0 ≤ℤ s → pos 0 ≤ℤ w → Within (c -ℤ s -ℤ w) (pos k) → Within (c +ℤ s +ℤ w) (pos k) → Parts c s w k
parts_within c s w k a b l h =
    let x = over l in let y = under h in
    record {
      centre = within_from c (pos k) (omega (arith, ints)) (omega (arith, ints));
      size = within_from s (pos k) (omega (arith, ints)) (omega (arith, ints));
      spread = within_from w (pos k) (omega (arith, ints)) (omega (arith, ints));
      less = within_from (c -ℤ s) (pos k) (omega (arith, ints)) (omega (arith, ints));
      more = within_from (c +ℤ s) (pos k) (omega (arith, ints)) (omega (arith, ints));
    }

module _ (k : ℕ) (u : Form) (e : EndsWithin k u) where
  parts : Parts u.u0 (absℤ u.u1) u.u2 k
  parts = parts_within u.u0 (absℤ u.u1) u.u2 k (abs≥0 u.u1) e.spread e.low e.high

  -- no number of a form is above its ends
  pub ends_bounded : Bounded k u
  ends_bounded = record {
    first = parts.centre;
    second = from_abs u.u1 parts.size;
    third = parts.spread;
  }
    where
      from_abs : (x : ℤ) → Within (absℤ x) (pos k) → Within x (pos k)
      from_abs x w = within_wider (within_abs x) w.below

  pub ends_fit : Fine k → EndsFit u
  ends_fit t = record {
    low = record { slope = within_fits parts.size t; middle = within_fits parts.less t; end = within_fits e.low t };
    high = record { slope = within_fits parts.size t; middle = within_fits parts.more t; end = within_fits e.high t };
  }

-- lo + hi ≤ 2 c ≤ lo + hi + 1, so |c − lo| ≤ k + 1
span_fits : (k : ℕ) (lo hi : ℤ) → Within lo (pos k) → Within hi (pos k) → Fine (k + k + 1) → SpanFits lo hi
span_fits k lo hi v w t = record {
  sum = within_below (k + k) (k + k + 1) (within_sum v w) (omega arith) t;
  width = within_fits (go (centre lo hi) (ceiling_rounds (lo +ℤ hi) (pos 2) (record { le = tt }))) t;
}
  where
    go : (c : ℤ) → RoundedUp (lo +ℤ hi) (pos 2) c → Within (c -ℤ lo) (pos (k + k + 1))
    go c r =
        let a = r.above in let b = r.below in let x = under v in let y = over v in let z = under w in let s = over w in
        within_from (c -ℤ lo) (pos (k + k + 1)) (omega (arith, ints)) (omega (arith, ints))

module _ (k : ℕ) (u v : Form) (a : EndsWithin k u) (b : EndsWithin k v) (t : Fine k) (s : Fine (k + k + 1)) where
  pub lesser_fits : LesserFits u v
  lesser_fits = record {
    left = ends_fit k u a t;
    right = ends_fit k v b t;
    span = span_fits k (int_min (low_end u) (low_end v)) (int_min (high_end u) (high_end v))
        (min_has (low_end u) (low_end v) (λ (x : ℤ). Within x (pos k)) a.low b.low)
        (min_has (high_end u) (high_end v) (λ (x : ℤ). Within x (pos k)) a.high b.high) s;
  }

  pub greater_fits : GreaterFits u v
  greater_fits = record {
    left = ends_fit k u a t;
    right = ends_fit k v b t;
    span = span_fits k (int_max (low_end u) (low_end v)) (int_max (high_end u) (high_end v))
        (max_has (low_end u) (low_end v) (λ (x : ℤ). Within x (pos k)) a.low b.low)
        (max_has (high_end u) (high_end v) (λ (x : ℤ). Within x (pos k)) a.high b.high) s;
  }
