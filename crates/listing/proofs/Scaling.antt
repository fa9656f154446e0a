-- The scaled coordinate of a piece's start in 64 bits.
use Rattle.std.proofs.Common.{◌≡◌, ℕ, ◌≤◌, ℤ, pos, ◌+ℤ◌, ◌-ℤ◌, ◌*ℤ◌, sym, subst, arith}
use borrow.Author.Differences.{ints}
use Rattle.integer.specs.Numbers.{Within}
use Rattle.integer.proofs.Absolute.{within_from}
use Rattle.integer.proofs.Machine.{stored, Is, is, is_numeral, is_stored, is_sum, is_difference, is_product}
use Rattle.listing.specs.Positions.{scaled_at}

-- s is the piece as a signed number
pub is_scaled : (a b s : ℤ) (k : ℕ) → Within a (pos 4096) → Within b (pos 4096) → s ≡ pos k → k ≤ 2048
    → Is (stored (pos 2048 *ℤ stored a) +ℤ stored (stored (stored b -ℤ stored a) *ℤ stored s)) (scaled_at a b k) 25165824
is_scaled a b s k a_in b_in same few =
    let s_in : Within s (pos 2048) = subst (λ (x : ℤ). Within x (pos 2048)) (sym same) (within_from (pos k) (pos 2048) (omega (arith, ints)) (omega (arith, ints))) in
    let is_move = is_product (is_stored (is_difference (is_stored (is b_in) tt) (is_stored (is a_in) tt)) tt) (is_stored (is s_in) tt) in
    let sum = is_sum (is_stored (is_product (is_numeral 2048) (is_stored (is a_in) tt)) tt) (is_stored is_move tt) in
    subst (λ (x : ℤ). Is (stored (pos 2048 *ℤ stored a) +ℤ stored (stored (stored b -ℤ stored a) *ℤ stored s)) (pos 2048 *ℤ a +ℤ (b -ℤ a) *ℤ x) 25165824) same sum
