-- The Lipschitz law of terrain: the values at any two places of a leg differ by at most L times their distance in half-steps. So one fraction has one value.
use Rattle.std.proofs.Common.{◌≡◌, ℕ, ℤ, pos, ◌+ℤ◌, ◌-ℤ◌, ◌*ℤ◌, neg_ℤ, ◌≤ℤ◌, sym, refl, ap, ◌∙◌, ap₂, lit≤}
use Rattle.integer.proofs.Absolute.{within_same, within_self, within_abs, abs≥0, within_sum, within_product, within_neg, abs_product, within_wider, bound≥0}
use Rattle.integer.proofs.Order.{sum≥0, product≥0, weaker, by_gap, natural≥0}
use Rattle.integer.proofs.Ring.{ring, ◌:+◌, ◌:-◌, ◌:*◌, con, neg, ◌:=◌}
use Rattle.integer.specs.Numbers.{Within, absℤ}
use Rattle.lattice.proofs.Cells.{same_by, cells_close_scaled}
use Rattle.lattice.proofs.Places.{cell_on_lattice, width≥1, in_cell_x, in_cell_y, value_in_is}
use Rattle.lattice.proofs.Legs.{OnMap}
use Rattle.lattice.specs.Surface.{over_cell, Steps}
use Rattle.lattice.specs.Terrain.{from_edge, width, cell_x, cell_y, value, steepness}
use Rattle.leg.specs.Places.{OnLeg, coordinate}
use Rattle.leg.specs.declared.shapes.Leg.{Leg}

module _ (h : ℕ → ℕ → ℤ) (D : ℤ) (steps : Steps h D) (leg : Leg) where
  pub step≥0 : pos 0 ≤ℤ D
  step≥0 = bound≥0 (steps.east 0 0 (lit≤ tt) (lit≤ tt))

  pub steep≥0 : pos 0 ≤ℤ steepness D leg
  unfolding steepness
  steep≥0 =
      sum≥0 (product≥0 (natural≥0 16777216) (abs≥0 (leg.end.z -ℤ leg.start.z)))
      (product≥0 (product≥0 (natural≥0 786432) step≥0) (sum≥0 (abs≥0 (leg.end.x -ℤ leg.start.x)) (abs≥0 (leg.end.y -ℤ leg.start.y))))

  module _ (map : OnMap leg) (p q p' q' : ℤ) (at : OnLeg p q) (at' : OnLeg p' q') where
    q≥0 : pos 0 ≤ℤ q
    q≥0 = weaker at.parts

    q'≥0 : pos 0 ≤ℤ q'
    q'≥0 = weaker at'.parts

    -- the distance in half-steps, times q q'
    apart : ℤ
    apart = p *ℤ q' -ℤ p' *ℤ q

    coordinates_apart : (a b : ℤ) → coordinate a b p q *ℤ q' -ℤ coordinate a b p' q' *ℤ q ≡ (b -ℤ a) *ℤ apart
    unfolding apart
    coordinates_apart a b =
        ring 6 (λ a b p q p' q'. (con (pos 4096) :* a :* q :+ (b :- a) :* p) :* q' :- (con (pos 4096) :* a :* q' :+ (b :- a) :* p') :* q
        := (b :- a) :* (p :* q' :- p' :* q)) refl a b p q p' q'

    edges_apart : (a b : ℤ) → absℤ (from_edge a b p q *ℤ q' -ℤ from_edge a b p' q' *ℤ q) ≡ absℤ (b -ℤ a) *ℤ absℤ apart
    edges_apart a b =
        ap absℤ (ring 4 (λ c q c' q'. (c :+ con (pos 16777216) :* q) :* q' :- (c' :+ con (pos 16777216) :* q') :* q := c :* q' :- c' :* q) refl
        (coordinate a b p q) q (coordinate a b p' q') q' ∙ coordinates_apart a b)
        ∙ abs_product (b -ℤ a) apart

    -- the ground, q · q times at p, q and q' · q' times at p', q'
    ground : ℤ
    ground = over_cell (width q) h (cell_x leg p q) (cell_y leg p q) (from_edge leg.start.x leg.end.x p q) (from_edge leg.start.y leg.end.y p q)

    ground' : ℤ
    ground' = over_cell (width q') h (cell_x leg p' q') (cell_y leg p' q') (from_edge leg.start.x leg.end.x p' q') (from_edge leg.start.y leg.end.y p' q')

    ground_close : Within (ground *ℤ (q' *ℤ q') -ℤ ground' *ℤ (q *ℤ q))
        (width q' *ℤ q *ℤ D *ℤ (absℤ (leg.end.x -ℤ leg.start.x) *ℤ absℤ apart +ℤ absℤ (leg.end.y -ℤ leg.start.y) *ℤ absℤ apart))
    unfolding ground ground'
    ground_close =
        within_same
        (cells_close_scaled (width q') q (width q) q' (weaker (width≥1 q' at'.parts)) q≥0 q'≥0
        (ring 2 (λ q q'. con (pos 262144) :* q :* q' := con (pos 262144) :* q' :* q) refl q q') h D steps
        (cell_x leg p' q') (cell_y leg p' q') (cell_x leg p q) (cell_y leg p q) _ _ _ _
        (cell_on_lattice _ _) (cell_on_lattice _ _) (cell_on_lattice _ _) (cell_on_lattice _ _)
        (in_cell_x leg map p' q' at') (in_cell_y leg map p' q' at') (in_cell_x leg map p q at) (in_cell_y leg map p q at))
        refl
        (ap₂ (λ (a b : ℤ). width q' *ℤ q *ℤ D *ℤ (a +ℤ b)) (edges_apart leg.start.x leg.end.x) (edges_apart leg.start.y leg.end.y))

    climb_close : Within ((leg.end.z -ℤ leg.start.z) *ℤ apart *ℤ (pos 16777216 *ℤ (q *ℤ q'))) (absℤ (leg.end.z -ℤ leg.start.z) *ℤ absℤ apart *ℤ (pos 16777216 *ℤ (q *ℤ q')))
    climb_close = within_product (within_product (within_abs (leg.end.z -ℤ leg.start.z)) (within_abs apart)) (within_self (product≥0 (natural≥0 16777216) (product≥0 q≥0 q'≥0)))

    -- the difference of the two values, over one bottom
    difference : (leg.end.z -ℤ leg.start.z) *ℤ apart *ℤ (pos 16777216 *ℤ (q *ℤ q')) +ℤ neg_ℤ (ground *ℤ (q' *ℤ q') -ℤ ground' *ℤ (q *ℤ q))
        ≡ value h leg p q *ℤ (q' *ℤ q') -ℤ value h leg p' q' *ℤ (q *ℤ q)
    unfolding value ground ground'
    difference =
        ap (λ (x : ℤ). x *ℤ (pos 16777216 *ℤ (q *ℤ q')) +ℤ neg_ℤ (ground *ℤ (q' *ℤ q') -ℤ ground' *ℤ (q *ℤ q))) (sym (coordinates_apart leg.start.z leg.end.z))
        ∙ ring 6 (λ q q' z z' n n'. (z :* q' :- z' :* q) :* (con (pos 16777216) :* (q :* q')) :+ neg (n :* (q' :* q') :- n' :* (q :* q))
        := (con (pos 16777216) :* z :* q :- n) :* (q' :* q') :- (con (pos 16777216) :* z' :* q' :- n') :* (q :* q)) refl
        q q' (coordinate leg.start.z leg.end.z p q) (coordinate leg.start.z leg.end.z p' q') ground ground'
        ∙ ap₂ (λ (a b : ℤ). a *ℤ (q' *ℤ q') -ℤ b *ℤ (q *ℤ q)) (sym (value_in_is h leg (cell_x leg p q) (cell_y leg p q) p q)) (sym (value_in_is h leg (cell_x leg p' q') (cell_y leg p' q') p' q'))

    -- THE LAW: |F(p, q) q'² − F(p', q') q²| ≤ L |p q' − p' q| q q'
    pub values_close : Within (value h leg p q *ℤ (q' *ℤ q') -ℤ value h leg p' q' *ℤ (q *ℤ q)) (steepness D leg *ℤ absℤ (p *ℤ q' -ℤ p' *ℤ q) *ℤ (q *ℤ q'))
    unfolding steepness apart
    values_close =
        within_wider (within_same (within_sum climb_close (within_neg ground_close)) difference refl)
        (by_gap _ _ _
        (product≥0 (product≥0 (product≥0 (product≥0 (natural≥0 524288) step≥0) (sum≥0 (abs≥0 (leg.end.x -ℤ leg.start.x)) (abs≥0 (leg.end.y -ℤ leg.start.y)))) (abs≥0 apart)) (product≥0 q≥0 q'≥0))
        (ring 7 (λ d x y z e q q'. con (pos 524288) :* d :* (x :+ y) :* e :* (q :* q')
        := (con (pos 16777216) :* z :+ con (pos 786432) :* d :* (x :+ y)) :* e :* (q :* q')
        :- (z :* e :* (con (pos 16777216) :* (q :* q')) :+ con (pos 262144) :* q' :* q :* d :* (x :* e :+ y :* e))) refl
        D (absℤ (leg.end.x -ℤ leg.start.x)) (absℤ (leg.end.y -ℤ leg.start.y)) (absℤ (leg.end.z -ℤ leg.start.z)) (absℤ apart) q q'))

    -- one fraction, one value
    pub same_fraction : p *ℤ q' ≡ p' *ℤ q → value h leg p q *ℤ (q' *ℤ q') ≡ value h leg p' q' *ℤ (q *ℤ q)
    same_fraction one =
        same_by values_close
        (ap (λ (x : ℤ). steepness D leg *ℤ absℤ (x -ℤ p' *ℤ q) *ℤ (q *ℤ q')) one
        ∙ ap (λ (x : ℤ). steepness D leg *ℤ absℤ x *ℤ (q *ℤ q')) (ring 1 (λ a. a :- a := con (pos 0)) refl (p' *ℤ q))
        ∙ ring 3 (λ l q q'. l :* con (pos 0) :* (q :* q') := con (pos 0)) refl (steepness D leg) q q')
