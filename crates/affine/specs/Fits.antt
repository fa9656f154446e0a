-- When an operation on forms can be done in 64 bits: the exact result's numbers, and those on the way, fit.
use Rattle.std.specs.Prelude.{ℕ, ◌+◌, ◌^◌, ℤ, pos, ◌+ℤ◌, ◌-ℤ◌, ◌*ℤ◌, neg_ℤ, ◌≤ℤ◌, FitsSigned}
use Rattle.std.specs.Int.{int_min, int_max, w64}
use Rattle.integer.specs.Numbers.{absℤ, Within}
use Rattle.affine.specs.declared.Form.{Form}
use Rattle.affine.specs.Forms.{reach_of, low_end, high_end, centre}

-- −2^63 ≤ z < 2^63
abbrev pub Fits : ℤ → Type 0
Fits z = FitsSigned w64 z

pub record SumFits (u v : Form) : Type 0 where
  pub first : Fits (u.u0 +ℤ v.u0)
  pub second : Fits (u.u1 +ℤ v.u1)
  pub third : Fits (u.u2 +ℤ v.u2)

pub record ScaledFits (k : ℤ) (u : Form) : Type 0 where
  pub size : Fits (absℤ k)
  pub first : Fits (k *ℤ u.u0)
  pub second : Fits (k *ℤ u.u1)
  pub third : Fits (absℤ k *ℤ u.u2)

pub record ShiftedFits (k : ℤ) (u : Form) : Type 0 where
  pub first : Fits (u.u0 +ℤ k)

pub record OppositeFits (u : Form) : Type 0 where
  pub first : Fits (neg_ℤ u.u0)
  pub second : Fits (neg_ℤ u.u1)

pub record ReachFits (u : Form) : Type 0 where
  pub slope : Fits (absℤ u.u1)
  pub slack : Fits (absℤ u.u2)
  pub sum : Fits (reach_of u)

pub record ProductFits (u v : Form) : Type 0 where
  pub left : ReachFits u
  pub right : ReachFits v
  pub left_size : Fits (absℤ u.u0)
  pub right_size : Fits (absℤ v.u0)
  pub first : Fits (u.u0 *ℤ v.u0)
  pub left_slope : Fits (u.u0 *ℤ v.u1)
  pub right_slope : Fits (v.u0 *ℤ u.u1)
  pub second : Fits (u.u0 *ℤ v.u1 +ℤ v.u0 *ℤ u.u1)
  pub left_slack : Fits (absℤ u.u0 *ℤ v.u2)
  pub right_slack : Fits (absℤ v.u0 *ℤ u.u2)
  pub slack : Fits (absℤ u.u0 *ℤ v.u2 +ℤ absℤ v.u0 *ℤ u.u2)
  pub cross : Fits (reach_of u *ℤ reach_of v)
  pub third : Fits (absℤ u.u0 *ℤ v.u2 +ℤ absℤ v.u0 *ℤ u.u2 +ℤ reach_of u *ℤ reach_of v)

pub record LowFits (u : Form) : Type 0 where
  pub slope : Fits (absℤ u.u1)
  pub middle : Fits (u.u0 -ℤ absℤ u.u1)
  pub end : Fits (low_end u)

pub record HighFits (u : Form) : Type 0 where
  pub slope : Fits (absℤ u.u1)
  pub middle : Fits (u.u0 +ℤ absℤ u.u1)
  pub end : Fits (high_end u)

pub record EndsFit (u : Form) : Type 0 where
  pub low : LowFits u
  pub high : HighFits u

pub record SpanFits (lo hi : ℤ) : Type 0 where
  pub sum : Fits (lo +ℤ hi)
  pub width : Fits (centre lo hi -ℤ lo)

pub record LesserFits (u v : Form) : Type 0 where
  pub left : EndsFit u
  pub right : EndsFit v
  pub span : SpanFits (int_min (low_end u) (low_end v)) (int_min (high_end u) (high_end v))

pub record GreaterFits (u v : Form) : Type 0 where
  pub left : EndsFit u
  pub right : EndsFit v
  pub span : SpanFits (int_max (low_end u) (low_end v)) (int_max (high_end u) (high_end v))

-- ---- two measures of a form, from which an operation is seen to fit

-- no number of the form is above k in absolute value
pub record Bounded (k : ℕ) (u : Form) : Type 0 where
  pub first : Within u.u0 (pos k)
  pub second : Within u.u1 (pos k)
  pub third : Within u.u2 (pos k)

-- the third number is not negative, and neither end is above k in absolute value
pub record EndsWithin (k : ℕ) (u : Form) : Type 0 where
  pub spread : pos 0 ≤ℤ u.u2
  pub low : Within (low_end u) (pos k)
  pub high : Within (high_end u) (pos k)

-- the limit of `ends_limit`
abbrev pub end_limit : ℕ
end_limit = 2 ^ 61 + 2 ^ 21

-- forms whose ends are within k can be added, turned, measured and compared
pub record Suffices (k : ℕ) : Type 0 where
  pub sum : (u v : Form) → EndsWithin k u → EndsWithin k v → SumFits u v
  pub opposite : (u : Form) → EndsWithin k u → OppositeFits u
  pub ends : (u : Form) → EndsWithin k u → EndsFit u
  pub lesser : (u v : Form) → EndsWithin k u → EndsWithin k v → LesserFits u v
  pub greater : (u v : Form) → EndsWithin k u → EndsWithin k v → GreaterFits u v
