-- The arithmetic of affine forms, over whole numbers without limit.
use Rattle.std.specs.Prelude.{cond, ℤ, pos, ◌+ℤ◌, ◌-ℤ◌, ◌*ℤ◌, neg_ℤ, int_le}
use Rattle.std.specs.Int.{int_min, int_max}
use Rattle.integer.specs.Numbers.{absℤ, ceiling_by}
use Rattle.affine.specs.declared.Form.{Form}

abbrev pub sum_of : Form → Form → Form
sum_of u v = record { u0 = u.u0 +ℤ v.u0; u1 = u.u1 +ℤ v.u1; u2 = u.u2 +ℤ v.u2 }

abbrev pub scaled_by : ℤ → Form → Form
scaled_by k u = record { u0 = k *ℤ u.u0; u1 = k *ℤ u.u1; u2 = absℤ k *ℤ u.u2 }

abbrev pub shifted_by : ℤ → Form → Form
shifted_by k u = record { u0 = u.u0 +ℤ k; u1 = u.u1; u2 = u.u2 }

abbrev pub opposite_of : Form → Form
opposite_of u = record { u0 = neg_ℤ u.u0; u1 = neg_ℤ u.u1; u2 = u.u2 }

-- |u1| + |u2|
abbrev pub reach_of : Form → ℤ
reach_of u = absℤ u.u1 +ℤ absℤ u.u2

unfoldable pub product_of : Form → Form → Form
product_of u v = record {
  u0 = u.u0 *ℤ v.u0;
  u1 = u.u0 *ℤ v.u1 +ℤ v.u0 *ℤ u.u1;
  u2 = absℤ u.u0 *ℤ v.u2 +ℤ absℤ v.u0 *ℤ u.u2 +ℤ reach_of u *ℤ reach_of v;
}

-- ---- the ends of a form over its whole piece

abbrev pub low_end : Form → ℤ
low_end u = u.u0 -ℤ absℤ u.u1 -ℤ u.u2

abbrev pub high_end : Form → ℤ
high_end u = u.u0 +ℤ absℤ u.u1 +ℤ u.u2

-- ---- the lesser and the greater of two values

-- (lo + hi) / 2, rounded up
abbrev pub centre : ℤ → ℤ → ℤ
centre lo hi = ceiling_by (lo +ℤ hi) (pos 2)

-- all numbers from lo to hi
abbrev pub span_of : ℤ → ℤ → Form
span_of lo hi = record { u0 = centre lo hi; u1 = pos 0; u2 = centre lo hi -ℤ lo }

-- u, where it ends before v begins; or v, the other way round; or else all from the lesser low end to the lesser high end
unfoldable pub lesser_of : Form → Form → Form
lesser_of u v =
    cond (int_le (high_end u) (low_end v)) u (cond (int_le (high_end v) (low_end u)) v (span_of (int_min (low_end u) (low_end v)) (int_min (high_end u) (high_end v))))

-- u, where it begins after v ends; or v, the other way round; or else all from the greater low end to the greater high end
unfoldable pub greater_of : Form → Form → Form
greater_of u v =
    cond (int_le (high_end v) (low_end u)) u (cond (int_le (high_end u) (low_end v)) v (span_of (int_max (low_end u) (low_end v)) (int_max (high_end u) (high_end v))))
