-- The largest step that a lattice keeps, as the code has it.
use Rattle.std.proofs.Common.{◌≡◌, ℕ, ◌≤◌, List, ℤ, pos, ◌*ℤ◌, ◌≤ℤ◌, vec_items, arith, w64, SFits}
use borrow.Author.Differences.{ints}
use Rattle.integer.specs.Numbers.{Within}
use Rattle.integer.proofs.Absolute.{within_from}
use Rattle.integer.proofs.Machine.{Is, stored, fits_is, is, is_by, is_stored}
use Rattle.leg.specs.declared.shapes.Leg.{Leg}
use Rattle.lattice.specs.Terrain.{greatest_step, steepness}
use Rattle.lattice.proofs.Lawful.{terrain_laws}
use Rattle.lattice.proofs.Reach.{largest≤316}
use Rattle.terrain.specs.Rows.{heights_of, row_refusal}
use Rattle.terrain.specs.Fitting.{row_heights}
use Rattle.terrain.specs.declared.grid.Lattice.{Lattice}

largest_small : (hs : List ℤ) → row_refusal hs ≡ 0 → Within (pos (greatest_step (heights_of hs))) (pos 316)
largest_small hs fit = plain (greatest_step (heights_of hs)) (largest≤316 (heights_of hs) (row_heights hs fit))
  where
    plain : (n : ℕ) → n ≤ 316 → Within (pos n) (pos 316)
    plain n h = within_from (pos n) (pos 316) (omega (arith, ints)) (omega (arith, ints))

pub largest_of : (hs : List ℤ) → row_refusal hs ≡ 0 → {largest : ℤ} → largest ≡ pos (greatest_step (heights_of hs)) → Is (stored largest) (pos (greatest_step (heights_of hs))) 316
largest_of hs fit e = is_stored (is_by e (is (largest_small hs fit))) tt

pub largest_is : (lattice : Lattice) → Is (stored lattice.largest) (pos (greatest_step (heights_of (vec_items lattice.heights.row)))) 316
largest_is lattice = largest_of (vec_items lattice.heights.row) lattice.heights.fit lattice.steps

pub largest_fits : (hs : List ℤ) → row_refusal hs ≡ 0 → {largest : ℤ} → largest ≡ pos (greatest_step (heights_of hs)) → SFits w64 largest
largest_fits hs fit e = fits_is e (let h = largest_small hs fit in omega (arith, ints))

-- what the laws say of its steepness
pub steepness_is : (lattice : Lattice) (leg : Leg) {r : ℤ} → r ≡ steepness (pos (greatest_step (heights_of (vec_items lattice.heights.row)))) leg →
    Is r (steepness (pos (greatest_step (heights_of (vec_items lattice.heights.row)))) leg) 8796093022208
steepness_is lattice leg e =
    let laws = terrain_laws (heights_of (vec_items lattice.heights.row)) (row_heights (vec_items lattice.heights.row) lattice.heights.fit) in
    is_by e (is (plain _ (laws.steepness≥0 leg) (laws.steepness_in_reach leg)))
  where
    plain : (l : ℤ) → pos 0 ≤ℤ l → (pos 2048 *ℤ l) ≤ℤ pos 18014398509481984 → Within l (pos 8796093022208)
    plain l low high = within_from l (pos 8796093022208) (omega (arith, ints)) (omega (arith, ints))
