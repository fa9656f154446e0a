-- Numbers of 64 bits. The logic shows a number that went through a variable as `stored z`, to its bits and back: that is z where z fits. A proof copies the code's
-- expression, from the exact numbers that fit (`stored_is`), or from bounds that are numerals (`Is`), each test of which is `tt`. No product is left to `omega`.
use Rattle.std.proofs.Common.{◌≡◌, ℕ, ◌+◌, ◌*◌, ◌<◌, T, leb, ℤ, pos, ◌+ℤ◌, ◌-ℤ◌, ◌*ℤ◌, nat_abs, sym, ap, ◌∙◌, subst, ap₂, arith, leb→le, w64, SFits, to_z, of_z}
use lib.Signed.{mag}
use borrow.Author.Differences.{ints}
use Rattle.std.proofs.lemmas.Int.{to_z-of_z}
use Rattle.integer.specs.Numbers.{Within, absℤ}
use Rattle.integer.proofs.Order.{natural≥0}
use Rattle.integer.proofs.Absolute.{under, over, within_wider, within_abs_self, within_self, within_neg, within_sum, within_product}

-- through a variable
abbrev pub stored : ℤ → ℤ
stored z = to_z w64 (of_z w64 z)

-- ---- by the exact number

pub fits_is : {x z : ℤ} → x ≡ z → SFits w64 z → SFits w64 x
fits_is e f = subst (λ (y : ℤ). SFits w64 y) (sym e) f

pub stored_is : {x z : ℤ} → x ≡ z → SFits w64 z → stored x ≡ z
stored_is {x} e f = to_z-of_z w64 x (fits_is e f) ∙ e

-- a callee's answer fits, whatever it is: `kept c.f.type_inv`
pub kept : {z : ℤ} → mag z < 9223372036854775808 → stored z ≡ z
kept {z} h = to_z-of_z w64 z (record { sfits = h })

-- ---- by a bound

abbrev pub Fine : ℕ → Type 0
Fine k = T (leb k 0x7fff_ffff_ffff_ffff)

pub within_fits : {z : ℤ} {k : ℕ} → Within z (pos k) → Fine k → SFits w64 z
within_fits {z} {k} w t = let a = under w in let b = over w in let l = leb→le k 0x7fff_ffff_ffff_ffff t in omega (arith, ints)

-- the machine's x is the number z, and |z| ≤ k
pub record Is (x z : ℤ) (k : ℕ) : Type 0 where
  pub same : x ≡ z
  pub small : Within z (pos k)

pub fits : {x z : ℤ} {k : ℕ} → Is x z k → Fine k → SFits w64 x
fits s t = fits_is s.same (within_fits s.small t)

pub within : {x z : ℤ} {k l : ℕ} → Is x z k → T (leb k l) → Within x (pos l)
within {k} {l} s t = let h = leb→le k l t in subst (λ (y : ℤ). Within y (pos l)) (sym s.same) (within_wider s.small (omega (arith, ints)))

pub is : {z : ℤ} {k : ℕ} → Within z (pos k) → Is z z k
is {z} w = record { same = λ i. z; small = w }

pub is_numeral : (n : ℕ) → Is (pos n) (pos n) n
is_numeral n = is (within_self (natural≥0 n))

-- a callee's answer that comes with its bound
pub is_of : {r z : ℤ} {k : ℕ} → r ≡ z → Within r (pos k) → Is r z k
is_of {k} e w = record { same = e; small = subst (λ (x : ℤ). Within x (pos k)) e w }

pub is_by : {r x z : ℤ} {k : ℕ} → r ≡ x → Is x z k → Is r z k
is_by e s = record { same = e ∙ s.same; small = s.small }

pub is_stored : {x z : ℤ} {k : ℕ} → Is x z k → Fine k → Is (stored x) z k
is_stored s t = record { same = stored_is s.same (within_fits s.small t); small = s.small }

pub is_sum : {x z y z' : ℤ} {k l : ℕ} → Is x z k → Is y z' l → Is (x +ℤ y) (z +ℤ z') (k + l)
is_sum s t = record { same = ap₂ ◌+ℤ◌ s.same t.same; small = within_sum s.small t.small }

pub is_difference : {x z y z' : ℤ} {k l : ℕ} → Is x z k → Is y z' l → Is (x -ℤ y) (z -ℤ z') (k + l)
is_difference s t = record { same = ap₂ ◌-ℤ◌ s.same t.same; small = within_sum s.small (within_neg t.small) }

pub is_product : {x z y z' : ℤ} {k l : ℕ} → Is x z k → Is y z' l → Is (x *ℤ y) (z *ℤ z') (k * l)
is_product s t = record { same = ap₂ ◌*ℤ◌ s.same t.same; small = within_product s.small t.small }

pub is_abs : {r x z : ℤ} {k : ℕ} → r ≡ pos (nat_abs x) → Is x z k → Is r (absℤ z) k
is_abs e s = record { same = e ∙ ap absℤ s.same; small = within_abs_self s.small }
