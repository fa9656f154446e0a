-- Bounds on the numbers of a form that an operation makes, from bounds on its arguments.
use Rattle.std.proofs.Common.{◌≡◌, ℕ, ◌+◌, ◌*◌, ◌≤◌, T, leb, ℤ, pos, ◌≤ℤ◌, sym, subst, arith, leb→le}
use borrow.Author.Differences.{ints}
use Rattle.integer.specs.Numbers.{Within}
use Rattle.integer.proofs.Absolute.{within_abs_self, within_neg, within_sum, within_product, within_wider}
use Rattle.affine.specs.declared.Form.{Form}
use Rattle.affine.specs.Forms.{sum_of, scaled_by, shifted_by, opposite_of, product_of}
use Rattle.affine.specs.Fits.{Bounded}

-- a larger bound
wider : {z : ℤ} (k l : ℕ) → k ≤ l → Within z (pos k) → Within z (pos l)
wider k l h w = within_wider w (go h)
  where
    go : k ≤ l → pos k ≤ℤ pos l
    go m = omega (arith, ints)

-- a form that is equal
pub bounded_by : {k : ℕ} {u v : Form} → u ≡ v → Bounded k v → Bounded k u
bounded_by {k} e b = subst (λ (w : Form). Bounded k w) (sym e) b

pub bounded_wider : {k l : ℕ} {u : Form} → Bounded k u → T (leb k l) → Bounded l u
bounded_wider {k} {l} a t = let h = leb→le k l t in record { first = wider k l h a.first; second = wider k l h a.second; third = wider k l h a.third }

pub bounded_sum : {k l : ℕ} {u v : Form} → Bounded k u → Bounded l v → Bounded (k + l) (sum_of u v)
bounded_sum a b = record { first = within_sum a.first b.first; second = within_sum a.second b.second; third = within_sum a.third b.third }

pub bounded_scaled : {k l : ℕ} {c : ℤ} {u : Form} → Within c (pos k) → Bounded l u → Bounded (k * l) (scaled_by c u)
bounded_scaled w a = record { first = within_product w a.first; second = within_product w a.second; third = within_product (within_abs_self w) a.third }

pub bounded_shifted : {k l : ℕ} {c : ℤ} {u : Form} → Within c (pos k) → Bounded l u → Bounded (l + k) (shifted_by c u)
bounded_shifted {k} {l} w a = record { first = within_sum a.first w; second = wider l (l + k) (omega arith) a.second; third = wider l (l + k) (omega arith) a.third }

pub bounded_opposite : {k : ℕ} {u : Form} → Bounded k u → Bounded k (opposite_of u)
bounded_opposite a = record { first = within_neg a.first; second = within_neg a.second; third = a.third }

pub bounded_product : {k l : ℕ} {u v : Form} → Bounded k u → Bounded l v → Bounded (k * l + l * k + (k + k) * (l + l)) (product_of u v)
unfolding product_of
bounded_product {k} {l} a b = record {
  first = wider (k * l) (k * l + l * k + (k + k) * (l + l)) (omega arith) (within_product a.first b.first);
  second = wider (k * l + l * k) (k * l + l * k + (k + k) * (l + l)) (omega arith) (within_sum (within_product a.first b.second) (within_product b.first a.second));
  third = within_sum
      (within_sum (within_product (within_abs_self a.first) b.third) (within_product (within_abs_self b.first) a.third))
      (within_product (within_sum (within_abs_self a.second) (within_abs_self a.third)) (within_sum (within_abs_self b.second) (within_abs_self b.third)));
}
