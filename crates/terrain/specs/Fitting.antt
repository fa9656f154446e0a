-- What a row that fits is: 16641 heights, each in range.
use Rattle.std.specs.Prelude.{◌≡◌, ℕ, zero, suc, ◌+◌, ◌*◌, ◌<◌, Bool, true, false, List, [], ◌∷◌, length, ℤ, pos, negsuc, ◌≤ℤ◌, ◌==◌, int_le, slice_index_or}
use Rattle.std.specs.List.{list_all}
use Rattle.std.proofs.Common.{T, sym, subst}
use Rattle.std.proofs.Math.Nat.{suc-ne-zero, not-suc-le-zero, le_of_suc-le-suc, mul-le-mul_left, add-lt-add_of_le_of_lt}
use Rattle.std.proofs.lemmas.Bool.{and_parts, eqb-true}
use Rattle.std.specs.Int.Signed.{le_z_yes}
use Rattle.lattice.specs.Terrain.{Heights}
use Rattle.terrain.specs.Rows.{heights_of, in_range, refusal_by, row_refusal}

-- the two tests of a refusal that came out 0
pub both_pass : (a b : Bool) → refusal_by a b ≡ 0 → (a ≡ true) × (b ≡ true)
both_pass true true e = (λ i. true, λ i. true)
both_pass true false e = absurd (suc-ne-zero 21 e)
both_pass false b e = absurd (suc-ne-zero 20 e)

pub every_one : (t : ℤ → Bool) (hs : List ℤ) → list_all t hs ≡ true → (k : ℕ) → k < length hs → t (slice_index_or hs k (pos 0)) ≡ true
every_one t [] e k k< = absurd (not-suc-le-zero k<)
every_one t (h ∷ hs) e zero k< = (and_parts (t h) (list_all t hs) e).0
every_one t (h ∷ hs) e (suc k) k< = every_one t hs (and_parts (t h) (list_all t hs) e).1 k (le_of_suc-le-suc k<)

module _ (hs : List ℤ) (fit : row_refusal hs ≡ 0) where
  tests : ((length hs == 16641) ≡ true) × (list_all in_range hs ≡ true)
  tests = both_pass (length hs == 16641) (list_all in_range hs) fit

  pub row_length : length hs ≡ 16641
  row_length = eqb-true (length hs) 16641 tests.0

  number : (i j : ℕ) → i < 129 → j < 129 → 129 * j + i < length hs
  number i j i< j< = subst (λ (n : ℕ). 129 * j + i < n) (sym row_length) (add-lt-add_of_le_of_lt (mul-le-mul_left 129 (le_of_suc-le-suc j<)) i<)

  one_in_range : (i j : ℕ) → i < 129 → j < 129 → (int_le (negsuc 15) (heights_of hs i j) ≡ true) × (int_le (heights_of hs i j) (pos 300) ≡ true)
  one_in_range i j i< j< = and_parts _ _ (every_one in_range hs tests.1 (129 * j + i) (number i j i< j<))

  pub row_heights : Heights (heights_of hs)
  row_heights = record {
    from = λ i j i< j<. low (heights_of hs i j) (one_in_range i j i< j<).0;
    to = λ i j i< j<. high (heights_of hs i j) (one_in_range i j i< j<).1;
  }
    where
      low : (h : ℤ) → int_le (negsuc 15) h ≡ true → negsuc 15 ≤ℤ h
      low h t = le_z_yes (subst T (sym t) tt)

      high : (h : ℤ) → int_le h (pos 300) ≡ true → h ≤ℤ pos 300
      high h t = le_z_yes (subst T (sym t) tt)
