-- Steepness and reach in 64 bits: each step's number and bound, as the code's expressions go.
use Rattle.std.proofs.Common.{◌≡◌, ℕ, ◌+◌, ◌<◌, ◌≤◌, List, get_or, ℤ, pos, ◌+ℤ◌, ◌-ℤ◌, ◌*ℤ◌, nat_abs, ◌∙◌, arith}
use Rattle.integer.specs.Numbers.{Within, absℤ}
use Rattle.integer.proofs.Absolute.{within_sum, within_abs_self}
use Rattle.integer.proofs.Machine.{Is, stored, is, is_of, is_abs, is_numeral, is_stored, is_difference, is_product}
use Rattle.leg.specs.declared.shapes.Leg.{Leg}
use Rattle.nodes.specs.declared.node.Node.{Node}
use Rattle.nodes.specs.declared.node.Shape.{Shape}
use Rattle.nodes.specs.declared.node.Shape.TheVariants.{Quadric, Sum, Union, Common, Outside}
use Rattle.nodes.specs.Tables.{Earlier}
use Rattle.nodes.specs.Quadrics.{moved_by}
use Rattle.nodes.specs.Formed.{InRange, Keeps}
use Rattle.nodes.specs.Sizes.{Entry, Ready}

-- |x| + |y| + |z|, as a call answers it
pub is_size : {r x y z x' y' z' : ℤ} {k l n : ℕ} → r ≡ absℤ x +ℤ absℤ y +ℤ absℤ z → Is x x' k → Is y y' l → Is z z' n → Is r (absℤ x' +ℤ absℤ y' +ℤ absℤ z') (k + l + n)
is_size e x y z = record {
  same = e ∙ (λ i. absℤ (x.same i) +ℤ absℤ (y.same i) +ℤ absℤ (z.same i));
  small = within_sum (within_sum (within_abs_self x.small) (within_abs_self y.small)) (within_abs_self z.small);
}

-- x times the move from a to b
pub is_moved : {a b x : ℤ} → Within a (pos 4096) → Within b (pos 4096) → Within x (pos 4096) → Is (stored x *ℤ stored (stored b -ℤ stored a)) (x *ℤ (b -ℤ a)) 33554432
is_moved a_in b_in x_in = is_product (is_stored (is x_in) tt) (is_stored (is_difference (is_stored (is b_in) tt) (is_stored (is a_in) tt)) tt)

-- what `moved` answers
pub moved_is : {x y z : ℤ} {n : ℕ} (leg : Leg) → Is (stored x) x n → Is (stored y) y n → Is (stored z) z n → {r : ℤ} → r ≡ moved_by leg (stored x) (stored y) (stored z) → Within r (pos 100663296) →
    Is r (moved_by leg x y z) 100663296
moved_is leg x y z e small = is_of (e ∙ (λ i. moved_by leg (x.same i) (y.same i) (z.same i))) small

-- the three parts of a quadric's reach, as calls answer them
module _ (node : Node) (k : InRange node) where
  pub is_bent : {r : ℤ} → r ≡ absℤ (stored node.sx) +ℤ absℤ (stored node.sy) +ℤ absℤ (stored node.sz) →
      Is (pos 1125899906842624 *ℤ stored r) (pos 1125899906842624 *ℤ (absℤ node.sx +ℤ absℤ node.sy +ℤ absℤ node.sz)) 54043195528445952
  is_bent e = is_product (is_numeral 1125899906842624) (is_stored (is_size e (is_stored (is k.sx_in) tt) (is_stored (is k.sy_in) tt) (is_stored (is k.sz_in) tt)) tt)

  pub is_straight : {r : ℤ} → r ≡ absℤ (stored node.lx) +ℤ absℤ (stored node.ly) +ℤ absℤ (stored node.lz) →
      Is (pos 137438953472 *ℤ stored r) (pos 137438953472 *ℤ (absℤ node.lx +ℤ absℤ node.ly +ℤ absℤ node.lz)) 1688849860263936
  is_straight e = is_product (is_numeral 137438953472) (is_stored (is_size e (is_stored (is k.lx_in) tt) (is_stored (is k.ly_in) tt) (is_stored (is k.lz_in) tt)) tt)

  pub is_level : {r : ℤ} → r ≡ pos (nat_abs (stored node.k)) → Is (pos 16777216 *ℤ stored r) (pos 16777216 *ℤ absℤ node.k) 18014398509481984
  is_level e = is_product (is_numeral 16777216) (is_stored (is_abs e (is_stored (is k.k_in) tt)) tt)

-- what a node needs, from what it keeps and the entries before it
module _ (node : Node) (done : List ℤ) (i : ℕ) (i≤ : i ≤ 64) (small : (k : ℕ) → k < i → Within (get_or done k (pos 0)) (pos 1152921504606846976)) where
  entry : (k : ℕ) → k < i → Entry done k
  entry k k< = record { there = omega arith; small = small k k< }

  pub ready : (shape : Shape) → Earlier i shape → Keeps i node shape → Ready node done shape
  ready Quadric e k = k.2
  ready (Sum a b) e k = (entry a e.0, entry b e.1)
  ready (Union a b) e k = (entry a e.0, entry b e.1)
  ready (Common a b) e k = (entry a e.0, entry b e.1)
  ready (Outside a) e k = entry a e
