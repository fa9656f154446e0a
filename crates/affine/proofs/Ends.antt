-- The ends of a form, and its third number.
use Rattle.std.proofs.Common.{◌≡◌, pos, ◌≤ℤ◌, refl}
use Rattle.integer.specs.Numbers.{absℤ}
use Rattle.integer.proofs.Ring.{ring, ◌:+◌, ◌:-◌, ◌:=◌}
use Rattle.integer.proofs.Order.{by_gap, sum≥0, product≥0}
use Rattle.integer.proofs.Absolute.{abs≥0}
use Rattle.affine.specs.declared.Form.{Form}
use Rattle.affine.specs.Forms.{reach_of, product_of, low_end, high_end}

-- two forms with the same three numbers are the same
pub same_form : {u v : Form} → u.u0 ≡ v.u0 → u.u1 ≡ v.u1 → u.u2 ≡ v.u2 → u ≡ v
same_form e f g = λ i. record { u0 = e i; u1 = f i; u2 = g i }

pub low≤high : (u : Form) → pos 0 ≤ℤ u.u2 → low_end u ≤ℤ high_end u
low≤high u h =
    by_gap (low_end u) (high_end u) _ (sum≥0 (sum≥0 (abs≥0 u.u1) h) (sum≥0 (abs≥0 u.u1) h))
    (ring 3 (λ u0 a u2. (a :+ u2) :+ (a :+ u2) := (u0 :+ a :+ u2) :- (u0 :- a :- u2)) refl u.u0 (absℤ u.u1) u.u2)

reach≥0 : (u : Form) → pos 0 ≤ℤ reach_of u
reach≥0 u = sum≥0 (abs≥0 u.u1) (abs≥0 u.u2)

pub product_kept : (u v : Form) → pos 0 ≤ℤ u.u2 → pos 0 ≤ℤ v.u2 → pos 0 ≤ℤ (product_of u v).u2
unfolding product_of
product_kept u v h k = sum≥0 (sum≥0 (product≥0 (abs≥0 u.u0) k) (product≥0 (abs≥0 v.u0) h)) (product≥0 (reach≥0 u) (reach≥0 v))
