-- The reach of terrain: how large a value can be, and the steepness against it. And the largest step of a lattice.
use Rattle.std.proofs.Common.{◌≡◌, ℕ, zero, suc, ◌<◌, ◌≤◌, ℤ, pos, negsuc, ◌-ℤ◌, ◌*ℤ◌, nat_abs, ◌≤ℤ◌, sym, refl, ap, ⊎_elim, arith}
use borrow.Author.Differences.{ints}
use Rattle.std.proofs.lemmas.Bool.{cases_lt}
use Rattle.integer.proofs.Absolute.{within_from, within_same, within_self, within_sum, within_product, within_neg, within_wider, abs_least, within_natural}
use Rattle.integer.proofs.Order.{gap, sum≥0, product≥0, weaker, by_gap, natural≥0}
use Rattle.integer.proofs.Ring.{ring, ◌:+◌, ◌:-◌, ◌:*◌, con, ◌:=◌}
use Rattle.integer.specs.Numbers.{Within, absℤ}
use Rattle.lattice.proofs.Cells.{over_cell_within}
use Rattle.lattice.proofs.Places.{cell_on_lattice, in_cell_x, in_cell_y, value_in_is}
use Rattle.lattice.proofs.Legs.{OnMap}
use Rattle.lattice.specs.Surface.{Steps}
use Rattle.lattice.specs.Terrain.{Heights, width, cell_x, cell_y, value, steepness, most, greatest_step, reach}
use Rattle.leg.specs.Places.{OnLeg, coordinate}
use Rattle.leg.specs.declared.shapes.Leg.{Leg}

pub natural_least : (x : ℤ) (n : ℕ) → Within x (pos n) → nat_abs x ≤ n
natural_least x n w = let h = abs_least w in omega (arith, ints)

-- ---- the largest of many

most_above : (n : ℕ) (f : ℕ → ℕ) (i : ℕ) → i < n → f i ≤ most n f
unfolding most
most_above zero f i i< = absurd (omega arith)
most_above (suc n) f i i< =
    let other : i < n → f i ≤ most n f = most_above n f i in
    ⊎_elim (λ below. let o = other below in omega arith)
    (λ above. let same : i ≡ n = omega arith in let here : f i ≡ f n = ap f same in omega arith)
    (cases_lt i n)

most_below : (n : ℕ) (f : ℕ → ℕ) (c : ℕ) → ((i : ℕ) → i < n → f i ≤ c) → most n f ≤ c
unfolding most
most_below zero f c all = omega arith
most_below (suc n) f c all =
    let other : most n f ≤ c = most_below n f c (λ i i<. all i (omega arith)) in
    let here : f n ≤ c = all n (omega arith) in omega arith

module _ (h : ℕ → ℕ → ℤ) where
  east_step : ℕ → ℕ → ℕ
  east_step j i = nat_abs (h (suc i) j -ℤ h i j)

  north_step : ℕ → ℕ → ℕ
  north_step j i = nat_abs (h i (suc j) -ℤ h i j)

  pub largest_is_step : Steps h (pos (greatest_step h))
  unfolding greatest_step east_step north_step
  largest_is_step = record {
    east = λ i j i< j<. within_natural (h (suc i) j -ℤ h i j) (greatest_step h)
        (let a = most_above 128 (east_step j) i i< in let b = most_above 129 (λ (j : ℕ). most 128 (east_step j)) j j< in omega arith);
    north = λ i j i< j<. within_natural (h i (suc j) -ℤ h i j) (greatest_step h)
        (let a = most_above 129 (north_step j) i i< in let b = most_above 128 (λ (j : ℕ). most 129 (north_step j)) j j< in omega arith);
  }

  module _ (heights : Heights h) where
    -- two heights differ by at most 316
    any_step : (i j i' j' : ℕ) → i < 129 → j < 129 → i' < 129 → j' < 129 → Within (h i' j' -ℤ h i j) (pos 316)
    any_step i j i' j' i< j< i'< j'< =
        let a = heights.from i j i< j< in let b = heights.to i j i< j< in let c = heights.from i' j' i'< j'< in let d = heights.to i' j' i'< j'< in
        within_from _ _ (omega (arith, ints)) (omega (arith, ints))

    pub largest≤316 : greatest_step h ≤ 316
    unfolding greatest_step
    largest≤316 =
        let a = most_below 129 (λ (j : ℕ). most 128 (λ (i : ℕ). nat_abs (h (suc i) j -ℤ h i j))) 316
        (λ j j<. most_below 128 _ 316 (λ i i<. natural_least (h (suc i) j -ℤ h i j) 316 (any_step i j (suc i) j (omega arith) j< (omega arith) j<))) in
        let b = most_below 128 (λ (j : ℕ). most 129 (λ (i : ℕ). nat_abs (h i (suc j) -ℤ h i j))) 316
        (λ j j<. most_below 129 _ 316 (λ i i<. natural_least (h i (suc j) -ℤ h i j) 316 (any_step i j i (suc j) i< (omega arith) i< (omega arith)))) in
        omega arith

    tall : (i j : ℕ) → i < 129 → j < 129 → Within (h i j) (pos 300)
    tall i j i< j< = let a = heights.from i j i< j< in let b = heights.to i j i< j< in within_from _ _ (omega (arith, ints)) (omega (arith, ints))

    module _ (leg : Leg) (map : OnMap leg) where
      -- a place is a weighted mean of the two ends: z1 (4096 q - p) + z2 p
      z_within : (p q : ℤ) → OnLeg p q → Within (coordinate leg.start.z leg.end.z p q) (pos 2703360 *ℤ q)
      z_within p q at =
          within_same (within_sum (within_product (end map.z1_from map.z1_to) (within_self (gap at.to))) (within_product (end map.z2_from map.z2_to) (within_self at.from)))
          (ring 4 (λ a b p q. a :* (con (pos 4096) :* q :- p) :+ b :* p := con (pos 4096) :* a :* q :+ (b :- a) :* p) refl leg.start.z leg.end.z p q)
          (ring 2 (λ p q. con (pos 660) :* (con (pos 4096) :* q :- p) :+ con (pos 660) :* p := con (pos 2703360) :* q) refl p q)
        where
          end : {z : ℤ} → negsuc 15 ≤ℤ z → z ≤ℤ pos 660 → Within z (pos 660)
          end {z} low high = within_from z (pos 660) (omega (arith, ints)) (omega (arith, ints))

      -- |F(p, q)| ≤ R q²: 2^36 · (660 + 300) is less than 2^46
      pub in_reach : (p q : ℤ) → OnLeg p q → Within (value h leg p q) (reach *ℤ (q *ℤ q))
      unfolding value
      in_reach p q at =
          within_wider
          (within_same
          (within_sum
          (within_product (within_product (within_self (natural≥0 16777216)) (z_within p q at)) (within_self (weaker at.parts)))
          (within_neg (over_cell_within (width q) h (pos 300) tall (cell_x leg p q) (cell_y leg p q) _ _ (cell_on_lattice _ _) (cell_on_lattice _ _) (in_cell_x leg map p q at) (in_cell_y leg map p q at))))
          (sym (value_in_is h leg (cell_x leg p q) (cell_y leg p q) p q)) refl)
          (by_gap _ _ _ (product≥0 (natural≥0 17948427811815424) (product≥0 (weaker at.parts) (weaker at.parts)))
          (ring 1 (λ q. con (pos 17948427811815424) :* (q :* q)
          := con (pos 18014398509481984) :* (q :* q)
          :- (con (pos 16777216) :* (con (pos 2703360) :* q) :* q :+ con (pos 262144) :* q :* (con (pos 262144) :* q :* con (pos 300)))) refl q))

      -- 2048 L ≤ R
      pub steep_in_reach : (D : ℤ) → pos 0 ≤ℤ D → D ≤ℤ pos 316 → (pos 2048 *ℤ steepness D leg) ≤ℤ reach
      unfolding steepness
      steep_in_reach D D≥0 D≤ =
          by_gap _ _ _
          (sum≥0 (sum≥0 (sum≥0 (product≥0 (natural≥0 34359738368) (gap climb))
          (product≥0 (natural≥0 26388279066624) (gap D≤)))
          (product≥0 (product≥0 (natural≥0 1610612736) D≥0) (sum≥0 (gap (across map.x1_in map.x2_in)) (gap (across map.y1_in map.y2_in)))))
          (natural≥0 9652475141292032))
          (ring 4 (λ d x y z. con (pos 34359738368) :* (con (pos 676) :- z) :+ con (pos 26388279066624) :* (con (pos 316) :- d)
          :+ con (pos 1610612736) :* d :* ((con (pos 8192) :- x) :+ (con (pos 8192) :- y)) :+ con (pos 9652475141292032)
          := con (pos 18014398509481984) :- con (pos 2048) :* (con (pos 16777216) :* z :+ con (pos 786432) :* d :* (x :+ y))) refl
          D (absℤ (leg.end.x -ℤ leg.start.x)) (absℤ (leg.end.y -ℤ leg.start.y)) (absℤ (leg.end.z -ℤ leg.start.z)))
        where
          across : {a b : ℤ} → Within a (pos 4096) → Within b (pos 4096) → absℤ (b -ℤ a) ≤ℤ pos 8192
          across {a} {b} v w = abs_least (within_same (within_sum w (within_neg v)) refl refl)

          climb : absℤ (leg.end.z -ℤ leg.start.z) ≤ℤ pos 676
          climb =
              let a = map.z1_from in let b = map.z1_to in let c = map.z2_from in let d = map.z2_to in
              abs_least (within_from (leg.end.z -ℤ leg.start.z) (pos 676) (omega (arith, ints)) (omega (arith, ints)))
