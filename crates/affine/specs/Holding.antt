-- What a form says. On the piece of middle m and half-width r, (u0, u1, u2) holds at the place p, q the values from u0 + u1 (p/q − m)/r − u2 to
-- u0 + u1 (p/q − m)/r + u2. With all fractions cleared, for the value n/d:
use Rattle.std.specs.Prelude.{ℤ, pos, ◌-ℤ◌, ◌*ℤ◌, ◌≤ℤ◌}
use Rattle.integer.specs.Numbers.{Within}
use Rattle.affine.specs.declared.Form.{Form}

abbrev pub missed : (m r p q : ℤ) → Form → ℤ → ℤ → ℤ
missed m r p q u n d = r *ℤ (q *ℤ n -ℤ u.u0 *ℤ q *ℤ d) -ℤ u.u1 *ℤ d *ℤ (p -ℤ m *ℤ q)

pub record Holds (m r p q : ℤ) (u : Form) (n d : ℤ) : Type 0 where
  pub bottom : pos 1 ≤ℤ d
  pub close : Within (missed m r p q u n d) (u.u2 *ℤ r *ℤ q *ℤ d)
