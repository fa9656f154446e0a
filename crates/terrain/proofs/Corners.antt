-- The coefficients that the code makes of the four heights at a cell's corners.
use Rattle.std.proofs.Common.{◌≡◌, ℕ, suc, ◌+◌, ◌<◌, ℤ, pos, ◌+ℤ◌, ◌-ℤ◌, vec_items, ap, ◌∙◌, ap₂, add-one, arith}
use borrow.Author.Differences.{ints}
use Rattle.integer.proofs.Absolute.{within_from}
use Rattle.integer.proofs.Machine.{Is, stored, is, is_by, is_stored, is_sum, is_difference}
use Rattle.terrain.specs.declared.cell.Spot.{Spot}
use Rattle.terrain.specs.declared.grid.Heights.{Heights}
use Rattle.terrain.specs.Rows.{heights_of}
use Rattle.terrain.specs.Fitting.{row_heights}

abbrev pub height : Heights → ℕ → ℕ → ℤ
height heights i j = heights_of (vec_items heights.row) i j

height_is : (heights : Heights) {r : ℤ} (i j : ℕ) → i < 129 → j < 129 → r ≡ height heights i j → Is (stored r) (height heights i j) 300
height_is heights i j i< j< e =
    let tall = row_heights (vec_items heights.row) heights.fit in
    let low = tall.from i j i< j< in let high = tall.to i j i< j< in
    is_stored (is_by e (is (within_from (height heights i j) (pos 300) (omega (arith, ints)) (omega (arith, ints))))) tt

-- the heights that were read at the corners of the cell of two spots
pub record Read (heights : Heights) (x y : Spot) (h00 h10 h01 h11 : ℤ) : Type 0 where
  pub here : h00 ≡ height heights x.index y.index
  pub east : h10 ≡ height heights (x.index + 1) y.index
  pub north : h01 ≡ height heights x.index (y.index + 1)
  pub across : h11 ≡ height heights (x.index + 1) (y.index + 1)

module _ {heights : Heights} {x y : Spot} {h00 h10 h01 h11 : ℤ} (read : Read heights x y h00 h10 h01 h11) where
  pub base_is : Is (stored h00) (height heights x.index y.index) 300
  base_is = let i< = x.on_lattice in let j< = y.on_lattice in height_is heights x.index y.index (omega arith) (omega arith) read.here

  pub east_of : Is (stored h10) (height heights (suc x.index) y.index) 300
  east_of =
      let i< = x.on_lattice in let j< = y.on_lattice in
      height_is heights (suc x.index) y.index (omega arith) (omega arith) (read.east ∙ ap (λ (n : ℕ). height heights n y.index) (add-one x.index))

  pub north_of : Is (stored h01) (height heights x.index (suc y.index)) 300
  north_of =
      let i< = x.on_lattice in let j< = y.on_lattice in
      height_is heights x.index (suc y.index) (omega arith) (omega arith) (read.north ∙ ap (λ (n : ℕ). height heights x.index n) (add-one y.index))

  across_from : Is (stored h11) (height heights (suc x.index) (suc y.index)) 300
  across_from =
      let i< = x.on_lattice in let j< = y.on_lattice in
      height_is heights (suc x.index) (suc y.index) (omega arith) (omega arith) (read.across ∙ ap₂ (λ (n k : ℕ). height heights n k) (add-one x.index) (add-one y.index))

  pub east_is : Is (stored (stored h10 -ℤ stored h00)) (height heights (suc x.index) y.index -ℤ height heights x.index y.index) 600
  east_is = is_stored (is_difference east_of base_is) tt

  pub north_is : Is (stored (stored h01 -ℤ stored h00)) (height heights x.index (suc y.index) -ℤ height heights x.index y.index) 600
  north_is = is_stored (is_difference north_of base_is) tt

  -- the twist from left to right
  pub three_is : Is (stored (stored h00 -ℤ stored h10) -ℤ stored h01) (height heights x.index y.index -ℤ height heights (suc x.index) y.index -ℤ height heights x.index (suc y.index)) 900
  three_is = is_difference (is_stored (is_difference base_is east_of) tt) north_of

  pub twist_is : Is (stored (stored (stored h00 -ℤ stored h10) -ℤ stored h01) +ℤ stored h11)
      (height heights x.index y.index -ℤ height heights (suc x.index) y.index -ℤ height heights x.index (suc y.index) +ℤ height heights (suc x.index) (suc y.index)) 1200
  twist_is = is_sum (is_stored three_is tt) across_from
