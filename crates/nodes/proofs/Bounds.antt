-- How large the numbers of a combined form are.
use Rattle.std.proofs.Common.{◌≡◌, ℕ, ◌+◌, ◌*◌, ℤ, pos, negsuc, ◌≤ℤ◌, sym, subst, arith}
use borrow.Author.Differences.{ints}
use Rattle.integer.specs.Numbers.{Within}
use Rattle.integer.proofs.Absolute.{within_sum, within_product, within_abs_self, within_wider}
use Rattle.integer.proofs.Machine.{Is, is}
use Rattle.affine.specs.declared.Form.{Form}
use Rattle.affine.specs.Forms.{sum_of, scaled_by, shifted_by}
use Rattle.affine.specs.Fits.{Bounded}

pub bounded_sum : {k l : ℕ} {u v : Form} → Bounded k u → Bounded l v → Bounded (k + l) (sum_of u v)
bounded_sum a b = record { first = within_sum a.first b.first; second = within_sum a.second b.second; third = within_sum a.third b.third }

pub bounded_scaled : {k l : ℕ} {c : ℤ} {u : Form} → Within c (pos k) → Bounded l u → Bounded (k * l) (scaled_by c u)
bounded_scaled w a = record { first = within_product w a.first; second = within_product w a.second; third = within_product (within_abs_self w) a.third }

more : (l k : ℕ) → pos l ≤ℤ pos (l + k)
more l k = omega (arith, ints)

pub bounded_shifted : {k l : ℕ} {c : ℤ} {u : Form} → Within c (pos k) → Bounded l u → Bounded (l + k) (shifted_by c u)
bounded_shifted {k} {l} w a = record { first = within_sum a.first w; second = within_wider a.second (more l k); third = within_wider a.third (more l k) }

-- a form that a call answers
pub sum_in : {k l : ℕ} {u v r : Form} → Bounded k u → Bounded l v → r ≡ sum_of u v → Bounded (k + l) r
sum_in {k} {l} a b e = subst (Bounded (k + l)) (sym e) (bounded_sum a b)

pub scaled_in : {k l : ℕ} {c : ℤ} {u r : Form} → Within c (pos k) → Bounded l u → r ≡ scaled_by c u → Bounded (k * l) r
scaled_in {k} {l} w a e = subst (Bounded (k * l)) (sym e) (bounded_scaled w a)

-- −4096
pub is_down : Is (negsuc 4095) (negsuc 4095) 4096
is_down = is (record { above = record { le = tt }; below = record { le = tt } })
