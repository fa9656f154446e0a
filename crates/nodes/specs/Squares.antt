-- The laws of a form's square. Nothing else looks into it.
use Rattle.std.specs.Prelude.{◌≡◌, ℕ, ◌+◌, ◌*◌, ℤ, pos, ◌+ℤ◌, ◌*ℤ◌, ◌≤ℤ◌, refl}
use Rattle.std.proofs.Math.Nat.{le_trans, le-add_right}
use Rattle.integer.specs.Numbers.{absℤ}
use Rattle.integer.proofs.Ring.{ring, ◌:+◌, ◌:*◌, con, ◌:=◌}
use Rattle.integer.proofs.Absolute.{within_sum, within_product, within_abs_self, within_wider}
use Rattle.leg.specs.Places.{OnPiece}
use Rattle.affine.specs.declared.Form.{Form}
use Rattle.affine.specs.Forms.{product_of}
use Rattle.affine.specs.Fits.{Bounded}
use Rattle.affine.specs.Holding.{Holds}
use Rattle.affine.proofs.Ends.{same_form}
use Rattle.affine.proofs.Holding.{product_holds}
use Rattle.nodes.specs.Quadrics.{square_of, line_of}
use Rattle.nodes.specs.Numbers.{natural≤}

-- it is the product
pub square_is : (u : Form) → product_of u u ≡ square_of u
unfolding square_of
square_is u = refl

-- it holds the square of what the form holds
pub square_holds : (m r p q : ℤ) → OnPiece m r p q → (u : Form) (n d : ℤ) → Holds m r p q u n d → Holds m r p q (square_of u) (n *ℤ n) (d *ℤ d)
unfolding square_of
square_holds m r p q at u n d h = product_holds m r p q at u u n d n d h h

-- the square of a number that changes evenly
pub square_line : (x k : ℤ) → square_of (line_of x k) ≡ record { u0 = x *ℤ x; u1 = x *ℤ k +ℤ x *ℤ k; u2 = absℤ k *ℤ absℤ k }
unfolding square_of product_of
square_line x k =
    same_form refl refl
    (ring 2 (λ x k. x :* con (pos 0) :+ x :* con (pos 0) :+ (k :+ con (pos 0)) :* (k :+ con (pos 0)) := k :* k) refl (absℤ x) (absℤ k))

-- how large its numbers are
pub bounded_square : {k : ℕ} {u : Form} → Bounded k u → Bounded (k * k + k * k + (k + k) * (k + k)) (square_of u)
unfolding square_of product_of
bounded_square {k} a = record {
  first = within_wider (within_product a.first a.first) (fewer (k * k) (k * k) ((k + k) * (k + k)));
  second = within_wider (within_sum (within_product a.first a.second) (within_product a.first a.second)) (first_two (k * k + k * k) ((k + k) * (k + k)));
  third = within_sum (within_sum (within_product (within_abs_self a.first) a.third) (within_product (within_abs_self a.first) a.third))
      (within_product (within_sum (within_abs_self a.second) (within_abs_self a.third)) (within_sum (within_abs_self a.second) (within_abs_self a.third)));
}
  where
    fewer : (x y z : ℕ) → pos x ≤ℤ pos (x + y + z)
    fewer x y z = natural≤ (le_trans (le-add_right x y) (le-add_right (x + y) z))

    first_two : (x y : ℕ) → pos x ≤ℤ pos (x + y)
    first_two x y = natural≤ (le-add_right x y)
