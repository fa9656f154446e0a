-- Every place of a leg lies in the cell that `cell_of` names; and the value at any two places of a leg (the Lipschitz law).
use Rattle.std.proofs.Common.{◌≡◌, ℕ, suc, ◌+◌, ◌*◌, ◌/◌, ◌<◌, ◌≤◌, min, ℤ, pos, negsuc, ◌-ℤ◌, ◌*ℤ◌, ◌≤ℤ◌, sym, refl, ap, ◌∙◌, subst, ⊎_elim, mul-le-mul_right, mul_comm, div-mul-le_self, arith}
use native.Mathlib.Nat.{lt-div-mul-add}
use borrow.Author.Differences.{ints}
use Rattle.std.proofs.lemmas.Bool.{cases_lt}
use Rattle.integer.proofs.Absolute.{under, over}
use Rattle.integer.proofs.Order.{gap, sum≥0, product≥0, ≥0_same, weaker, by_gap}
use Rattle.integer.proofs.Ring.{ring, ◌:+◌, ◌:-◌, ◌:*◌, con, ◌:=◌}
use Rattle.integer.specs.Numbers.{Within}
use Rattle.lattice.proofs.Cells.{cells_agree}
use Rattle.lattice.proofs.Legs.{OnMap}
use Rattle.lattice.specs.Surface.{InCell, over_cell, Steps}
use Rattle.lattice.specs.Terrain.{from_edge, width, cell_of, cell_x, cell_y, value_in, value}
use Rattle.leg.specs.Places.{OnLeg, coordinate}
use Rattle.leg.specs.declared.shapes.Leg.{Leg}

-- ---- the cell of a number

-- n lies in cell d of cells k wide, in plain numbers
in_cell_of : (n k d : ℕ) → d * k ≤ n → n ≤ d * k + k → InCell (pos k) d (pos n)
in_cell_of n k d low high = let c = mul_comm k d in record { from = omega (arith, ints); to = omega (arith, ints) }

in_quotient : (n k : ℕ) → 0 < k → n ≤ 128 * k → InCell (pos k) (min (n / k) 127) (pos n)
in_quotient n k some below =
    ⊎_elim
    (λ small. subst (λ (i : ℕ). InCell (pos k) i (pos n)) (omega arith) (in_cell_of n k (n / k) low (omega arith)))
    (λ large. subst (λ (i : ℕ). InCell (pos k) i (pos n)) (omega arith)
    (in_cell_of n k 127 (let more : 128 * k ≤ n / k * k = mul-le-mul_right k large in omega arith) (omega arith)))
    (cases_lt (n / k) 128)
  where
    low : n / k * k ≤ n
    low = div-mul-le_self n k

    high : n < n / k * k + k
    high = lt-div-mul-add some

pub in_its_cell : (w u : ℤ) → pos 1 ≤ℤ w → pos 0 ≤ℤ u → u ≤ℤ (pos 128 *ℤ w) → InCell w (cell_of w u) u
unfolding cell_of
in_its_cell (pos k) (pos n) some low high = in_quotient n k (omega (arith, ints)) (omega (arith, ints))
in_its_cell (pos k) (negsuc n) some low high = absurd low.le
in_its_cell (negsuc k) u some low high = absurd some.le

pub cell_on_lattice : (w u : ℤ) → cell_of w u < 128
unfolding cell_of
cell_on_lattice w u = omega arith

-- ---- a place of a leg on the map lies over the lattice

pub width≥1 : (q : ℤ) → pos 1 ≤ℤ q → pos 1 ≤ℤ width q
width≥1 q h = omega (arith, ints)

-- the place is a weighted mean of the two ends: (a + 4096)(4096 q - p) + (b + 4096) p
pub edge≥0 : (a b p q : ℤ) → Within a (pos 4096) → Within b (pos 4096) → OnLeg p q → pos 0 ≤ℤ from_edge a b p q
edge≥0 a b p q a_in b_in at =
    ≥0_same (sum≥0 (product≥0 (over a_in) (gap at.to)) (product≥0 (over b_in) at.from))
    (ring 4 (λ a b p q. (con (pos 4096) :+ a) :* (con (pos 4096) :* q :- p) :+ (con (pos 4096) :+ b) :* p
    := con (pos 4096) :* a :* q :+ (b :- a) :* p :+ con (pos 16777216) :* q) refl a b p q)

pub edge_to : (a b p q : ℤ) → Within a (pos 4096) → Within b (pos 4096) → OnLeg p q → from_edge a b p q ≤ℤ (pos 128 *ℤ width q)
edge_to a b p q a_in b_in at =
    by_gap _ _ _ (sum≥0 (product≥0 (under a_in) (gap at.to)) (product≥0 (under b_in) at.from))
    (ring 4 (λ a b p q. (con (pos 4096) :- a) :* (con (pos 4096) :* q :- p) :+ (con (pos 4096) :- b) :* p
    := con (pos 128) :* (con (pos 262144) :* q) :- (con (pos 4096) :* a :* q :+ (b :- a) :* p :+ con (pos 16777216) :* q)) refl a b p q)

pub at_place : (a b p q : ℤ) → Within a (pos 4096) → Within b (pos 4096) → OnLeg p q → InCell (width q) (cell_of (width q) (from_edge a b p q)) (from_edge a b p q)
at_place a b p q a_in b_in at = in_its_cell (width q) (from_edge a b p q) (width≥1 q at.parts) (edge≥0 a b p q a_in b_in at) (edge_to a b p q a_in b_in at)

pub in_cell_x : (leg : Leg) → OnMap leg → (p q : ℤ) → OnLeg p q → InCell (width q) (cell_x leg p q) (from_edge leg.start.x leg.end.x p q)
in_cell_x leg map p q at = at_place leg.start.x leg.end.x p q map.x1_in map.x2_in at

pub in_cell_y : (leg : Leg) → OnMap leg → (p q : ℤ) → OnLeg p q → InCell (width q) (cell_y leg p q) (from_edge leg.start.y leg.end.y p q)
in_cell_y leg map p q at = at_place leg.start.y leg.end.y p q map.y1_in map.y2_in at

-- ---- the formula of a cell is the surface of `Lattice`

-- the value by cell (i, j), with the ground as a mix of its four heights
pub value_in_is : (h : ℕ → ℕ → ℤ) (leg : Leg) (i j : ℕ) (p q : ℤ) →
    value_in h leg i j p q ≡ pos 16777216 *ℤ coordinate leg.start.z leg.end.z p q *ℤ q -ℤ over_cell (width q) h i j (from_edge leg.start.x leg.end.x p q) (from_edge leg.start.y leg.end.y p q)
value_in_is h leg i j p q =
    ring 10 (λ q z u v ci cj a b c d.
    con (pos 16777216) :* z :* q :- (con (pos 68719476736) :* a :* (q :* q)
    :+ con (pos 262144) :* (b :- a) :* (u :- con (pos 262144) :* q :* ci) :* q
    :+ con (pos 262144) :* (c :- a) :* (v :- con (pos 262144) :* q :* cj) :* q
    :+ (a :- b :- c :+ d) :* (u :- con (pos 262144) :* q :* ci) :* (v :- con (pos 262144) :* q :* cj))
    := con (pos 16777216) :* z :* q :-
    ((con (pos 262144) :* q :- (v :- con (pos 262144) :* q :* cj)) :* ((con (pos 262144) :* q :- (u :- con (pos 262144) :* q :* ci)) :* a :+ (u :- con (pos 262144) :* q :* ci) :* b)
    :+ (v :- con (pos 262144) :* q :* cj) :* ((con (pos 262144) :* q :- (u :- con (pos 262144) :* q :* ci)) :* c :+ (u :- con (pos 262144) :* q :* ci) :* d))) refl
    q (coordinate leg.start.z leg.end.z p q) (from_edge leg.start.x leg.end.x p q) (from_edge leg.start.y leg.end.y p q) (pos i) (pos j) (h i j) (h (suc i) j) (h i (suc j)) (h (suc i) (suc j))

-- the formula of any closed cell that the place lies in gives the value there
pub value_by_cell : (h : ℕ → ℕ → ℤ) (D : ℤ) → Steps h D → (leg : Leg) → OnMap leg → (i j : ℕ) → i < 128 → j < 128 → (p q : ℤ) → OnLeg p q →
    InCell (width q) i (from_edge leg.start.x leg.end.x p q) → InCell (width q) j (from_edge leg.start.y leg.end.y p q) →
    value h leg p q ≡ value_in h leg i j p q
unfolding value
value_by_cell h D steps leg map i j i< j< p q at at_x at_y =
    value_in_is h leg (cell_x leg p q) (cell_y leg p q) p q
    ∙ ap (λ (n : ℤ). pos 16777216 *ℤ coordinate leg.start.z leg.end.z p q *ℤ q -ℤ n)
    (cells_agree (width q) (weaker (width≥1 q at.parts)) h D steps i j (cell_x leg p q) (cell_y leg p q)
    (from_edge leg.start.x leg.end.x p q) (from_edge leg.start.y leg.end.y p q) i< j<
    (cell_on_lattice _ _) (cell_on_lattice _ _) at_x at_y (in_cell_x leg map p q at) (in_cell_y leg map p q at))
    ∙ sym (value_in_is h leg i j p q)
