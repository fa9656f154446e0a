-- The other bound, (value at m, 0, L r); the choice between the two; and all laws of terrain together.
use Rattle.std.proofs.Common.{◌≡◌, ℕ, Bool, true, false, cond, ◌&&◌, T, ℤ, pos, ◌+ℤ◌, ◌-ℤ◌, ◌*ℤ◌, ◌≤ℤ◌, sym, refl, subst, arith}
use lib.Signed.{le_z, le_z_yes}
use borrow.Author.Differences.{ints}
use Rattle.integer.specs.Numbers.{Within, absℤ}
use Rattle.integer.proofs.Ring.{ring, ◌:-◌, ◌:*◌, con, ◌:=◌}
use Rattle.integer.proofs.Order.{gap, natural≥0, product≥0, product≥1, weaker, by_gap}
use Rattle.integer.proofs.Absolute.{abs≥0, abs_least, within_from, within_same, within_self, within_product, within_wider}
use Rattle.leg.specs.declared.shapes.Leg.{Leg}
use Rattle.leg.specs.Ranges.{IsPiece}
use Rattle.leg.specs.Places.{OnLeg, OnPiece}
use Rattle.leg.proofs.Places.{near_middle}
use Rattle.leg.proofs.Shaping.{piece_on_leg}
use Rattle.affine.specs.declared.Form.{Form}
use Rattle.affine.specs.Forms.{low_end, high_end}
use Rattle.affine.specs.Holding.{Holds}
use Rattle.field.specs.Meaning.{Laws}
use Rattle.field.specs.Bounds.{at_middle, spread}
use Rattle.lattice.specs.Surface.{into, InCell, Steps}
use Rattle.lattice.specs.Terrain.{Heights, from_edge, width, cell_x, cell_y, value, greatest_step, steepness, in_cell, lies_in_one_cell, form_in, wide_form, bound}
use Rattle.lattice.specs.Meaning.{terrain_of, SteepBetween}
use Rattle.lattice.proofs.Legs.{OnMap, lies_on_map}
use Rattle.lattice.proofs.Places.{cell_on_lattice, value_by_cell}
use Rattle.lattice.proofs.Steepness.{steep≥0, values_close, same_fraction}
use Rattle.lattice.proofs.Reach.{largest_is_step, largest≤316, in_reach, steep_in_reach}
use Rattle.lattice.proofs.CellForms.{form_in_holds, form_in_narrow, form_in_base, place_in_cell}

-- ---- tests

both : (a b : Bool) → T (a && b) → T a × T b
both true b t = (tt, t)
both false b t = absurd t

in_cell_yes : (w : ℤ) (i : ℕ) (u : ℤ) → T (in_cell w i u) → InCell w i u
in_cell_yes w i u t = let s = both (le_z (pos 0) (into w i u)) (le_z (into w i u) w) t in record { from = le_z_yes s.0; to = le_z_yes s.1 }

-- what holds of both forms holds of the one that a test chooses
by_test : (t : Bool) {x y : Form} (P : Form → Type 0) → (T t → P x) → P y → P (cond t x y)
by_test true P f g = f tt
by_test false P f g = g

-- the four facts behind `lies_in_one_cell`
record Stays (leg : Leg) (m r : ℤ) : Type 0 where
  x_start : InCell (width (pos 1)) (cell_x leg m (pos 1)) (from_edge leg.start.x leg.end.x (m -ℤ r) (pos 1))
  x_end : InCell (width (pos 1)) (cell_x leg m (pos 1)) (from_edge leg.start.x leg.end.x (m +ℤ r) (pos 1))
  y_start : InCell (width (pos 1)) (cell_y leg m (pos 1)) (from_edge leg.start.y leg.end.y (m -ℤ r) (pos 1))
  y_end : InCell (width (pos 1)) (cell_y leg m (pos 1)) (from_edge leg.start.y leg.end.y (m +ℤ r) (pos 1))

stays : (leg : Leg) (m r : ℤ) → T (lies_in_one_cell leg m r) → Stays leg m r
unfolding lies_in_one_cell
stays leg m r t =
    let xy = both _ _ t in let x = both _ _ xy.0 in let y = both _ _ xy.1 in
    record { x_start = in_cell_yes _ _ _ x.0; x_end = in_cell_yes _ _ _ x.1; y_start = in_cell_yes _ _ _ y.0; y_end = in_cell_yes _ _ _ y.1 }

-- ---- a form with v in its first number, whose other two make up at most l, has its ends within l of v

low_from : (v l : ℤ) (u : Form) → u.u0 ≡ v → pos 0 ≤ℤ u.u2 → (absℤ u.u1 +ℤ u.u2) ≤ℤ l → Within (low_end u -ℤ v) l
low_from v l u e k h = plain v u.u0 (absℤ u.u1) u.u2 l e (abs≥0 u.u1) k h
  where
    plain : (v b s k l : ℤ) → b ≡ v → pos 0 ≤ℤ s → pos 0 ≤ℤ k → (s +ℤ k) ≤ℤ l → Within (b -ℤ s -ℤ k -ℤ v) l
    plain v b s k l e i j h = within_from _ _ (omega (arith, ints)) (omega (arith, ints))

high_from : (v l : ℤ) (u : Form) → u.u0 ≡ v → pos 0 ≤ℤ u.u2 → (absℤ u.u1 +ℤ u.u2) ≤ℤ l → Within (high_end u -ℤ v) l
high_from v l u e k h = plain v u.u0 (absℤ u.u1) u.u2 l e (abs≥0 u.u1) k h
  where
    plain : (v b s k l : ℤ) → b ≡ v → pos 0 ≤ℤ s → pos 0 ≤ℤ k → (s +ℤ k) ≤ℤ l → Within (b +ℤ s +ℤ k -ℤ v) l
    plain v b s k l e i j h = within_from _ _ (omega (arith, ints)) (omega (arith, ints))

module _ (h : ℕ → ℕ → ℤ) (D : ℤ) (steps : Steps h D) (leg : Leg) (map : OnMap leg) where
  -- ---- (value at m, 0, L r)

  wide_holds : (m r p q : ℤ) → OnLeg m (pos 1) → OnLeg p q → OnPiece m r p q → Holds m r p q (wide_form h D leg m r) (value h leg p q) (q *ℤ q)
  wide_holds m r p q mid on at =
      let l : ℤ = steepness D leg in
      let l≥0 : pos 0 ≤ℤ steepness D leg = steep≥0 h D steps leg in
      let q≥0 : pos 0 ≤ℤ q = weaker at.parts in
      let r≥0 : pos 0 ≤ℤ r = weaker at.wide in
      -- the place is at most r half-steps from the middle
      let near : absℤ (p *ℤ pos 1 -ℤ m *ℤ q) ≤ℤ (r *ℤ q) = abs_least (within_same (near_middle at) (ring 3 (λ p m q. p :- m :* q := p :* con (pos 1) :- m :* q) refl p m q) refl) in
      let close : Within (value h leg p q *ℤ (pos 1 *ℤ pos 1) -ℤ value h leg m (pos 1) *ℤ (q *ℤ q)) (l *ℤ (r *ℤ q) *ℤ (q *ℤ pos 1)) =
      within_wider (values_close h D steps leg map p q m (pos 1) on mid)
      (by_gap _ _ _ (product≥0 (product≥0 l≥0 (gap near)) (product≥0 q≥0 (natural≥0 1)))
      (ring 4 (λ l e t q. l :* (t :- e) :* (q :* con (pos 1)) := l :* t :* (q :* con (pos 1)) :- l :* e :* (q :* con (pos 1))) refl l (absℤ (p *ℤ pos 1 -ℤ m *ℤ q)) (r *ℤ q) q)) in
      record {
        bottom = product≥1 at.parts at.parts;
        close = within_same (within_product (within_self (product≥0 r≥0 q≥0)) close)
            (ring 5 (λ r q t v n. r :* q :* (n :* (con (pos 1) :* con (pos 1)) :- v :* (q :* q)) := r :* (q :* n :- v :* q :* (q :* q)) :- con (pos 0) :* (q :* q) :* t) refl
            r q (p -ℤ m *ℤ q) (value h leg m (pos 1)) (value h leg p q))
            (ring 3 (λ l r q. r :* q :* (l :* (r :* q) :* (q :* con (pos 1))) := l :* r :* r :* q :* (q :* q)) refl l r q);
      }

  -- ---- the formula of the middle's cell

  cell_holds : (m r p q : ℤ) → OnLeg p q → OnPiece m r p q → Stays leg m r →
      Holds m r p q (form_in h leg (cell_x leg m (pos 1)) (cell_y leg m (pos 1)) m r) (value h leg p q) (q *ℤ q)
  cell_holds m r p q on at s =
      subst (λ (n : ℤ). Holds m r p q (form_in h leg (cell_x leg m (pos 1)) (cell_y leg m (pos 1)) m r) n (q *ℤ q))
      (sym (value_by_cell h D steps leg map (cell_x leg m (pos 1)) (cell_y leg m (pos 1)) (cell_on_lattice _ _) (cell_on_lattice _ _) p q on
      (place_in_cell leg.start.x leg.end.x m r (cell_x leg m (pos 1)) s.x_start s.x_end p q at)
      (place_in_cell leg.start.y leg.end.y m r (cell_y leg m (pos 1)) s.y_start s.y_end p q at)))
      (form_in_holds m r p q h leg (cell_x leg m (pos 1)) (cell_y leg m (pos 1)) at)

  cell_base : (m r : ℤ) → (form_in h leg (cell_x leg m (pos 1)) (cell_y leg m (pos 1)) m r).u0 ≡ value h leg m (pos 1)
  unfolding value
  cell_base m r = form_in_base h leg (cell_x leg m (pos 1)) (cell_y leg m (pos 1)) m r

  cell_narrow : (m r : ℤ) → pos 1 ≤ℤ r → Stays leg m r →
      (absℤ (form_in h leg (cell_x leg m (pos 1)) (cell_y leg m (pos 1)) m r).u1 +ℤ (form_in h leg (cell_x leg m (pos 1)) (cell_y leg m (pos 1)) m r).u2) ≤ℤ (steepness D leg *ℤ r)
  cell_narrow m r wide s =
      form_in_narrow h D steps (cell_x leg m (pos 1)) (cell_y leg m (pos 1)) (cell_on_lattice _ _) (cell_on_lattice _ _) leg m r (weaker wide) s.x_start s.x_end s.y_start s.y_end

  -- ---- the bound

  pub bound_holds : (m r p q : ℤ) → OnLeg m (pos 1) → OnLeg p q → OnPiece m r p q → Holds m r p q (bound h D leg m r) (value h leg p q) (q *ℤ q)
  unfolding bound
  bound_holds m r p q mid on at =
      by_test (lies_in_one_cell leg m r) (λ (u : Form). Holds m r p q u (value h leg p q) (q *ℤ q))
      (λ t. cell_holds m r p q on at (stays leg m r t))
      (wide_holds m r p q mid on at)

  -- both forms have the value at the middle for their base, and a slope and slack within L r
  narrow : (P : Form → Type 0) (m r : ℤ) → pos 1 ≤ℤ r → ((u : Form) → u.u0 ≡ value h leg m (pos 1) → (absℤ u.u1 +ℤ u.u2) ≤ℤ (steepness D leg *ℤ r) → P u) → P (bound h D leg m r)
  unfolding bound
  narrow P m r wide give =
      by_test (lies_in_one_cell leg m r) P
      (λ t. give (form_in h leg (cell_x leg m (pos 1)) (cell_y leg m (pos 1)) m r) (cell_base m r) (cell_narrow m r wide (stays leg m r t)))
      (give (wide_form h D leg m r) refl (plus_nothing (steepness D leg *ℤ r)))
    where
      plus_nothing : (l : ℤ) → (pos 0 +ℤ l) ≤ℤ l
      plus_nothing l = omega (arith, ints)

  -- the first number of the bound is the value at the middle, and its other two make up at most L r
  at_value : (m r : ℤ) → pos 1 ≤ℤ r → (bound h D leg m r).u0 ≡ value h leg m (pos 1)
  at_value m r wide = narrow (λ (u : Form). u.u0 ≡ value h leg m (pos 1)) m r wide (λ u e l. e)

  in_steepness : (m r : ℤ) → pos 1 ≤ℤ r → (absℤ (bound h D leg m r).u1 +ℤ (bound h D leg m r).u2) ≤ℤ (steepness D leg *ℤ r)
  in_steepness m r wide = narrow (λ (u : Form). (absℤ u.u1 +ℤ u.u2) ≤ℤ (steepness D leg *ℤ r)) m r wide (λ u e l. l)

  -- ---- on a piece

  module _ (m r : ℕ) (piece : IsPiece m r) where
    wide : pos 1 ≤ℤ pos r
    wide = (at_middle m r piece).wide

    middle : OnLeg (pos m) (pos 1)
    middle = piece_on_leg m r piece (pos m) (pos 1) (at_middle m r piece)

    pub piece_holds : (p q : ℤ) → OnPiece (pos m) (pos r) p q → Holds (pos m) (pos r) p q (bound h D leg (pos m) (pos r)) (value h leg p q) (q *ℤ q)
    piece_holds p q at = bound_holds (pos m) (pos r) p q middle (piece_on_leg m r piece p q at) at

    slack≥0 : pos 0 ≤ℤ (bound h D leg (pos m) (pos r)).u2
    slack≥0 = spread m r piece (bound h D leg (pos m) (pos r)) (value h leg (pos m) (pos 1)) (piece_holds (pos m) (pos 1) (at_middle m r piece))

    pub piece_low : Within (low_end (bound h D leg (pos m) (pos r)) -ℤ value h leg (pos m) (pos 1)) (steepness D leg *ℤ pos r)
    piece_low = low_from _ _ (bound h D leg (pos m) (pos r)) (at_value (pos m) (pos r) wide) slack≥0 (in_steepness (pos m) (pos r) wide)

    pub piece_high : Within (high_end (bound h D leg (pos m) (pos r)) -ℤ value h leg (pos m) (pos 1)) (steepness D leg *ℤ pos r)
    piece_high = high_from _ _ (bound h D leg (pos m) (pos r)) (at_value (pos m) (pos r) wide) slack≥0 (in_steepness (pos m) (pos r) wide)

-- ---- all laws

module _ (h : ℕ → ℕ → ℤ) where
  steps : Steps h (pos (greatest_step h))
  steps = largest_is_step h

  pub steep_between : SteepBetween h
  steep_between leg = values_close h (pos (greatest_step h)) steps leg (lies_on_map leg)

  pub terrain_laws : Heights h → Laws (terrain_of h)
  terrain_laws heights = record {
    same_fraction = λ leg. same_fraction h (pos (greatest_step h)) steps leg (lies_on_map leg);
    in_reach = λ leg. in_reach h heights leg (lies_on_map leg);
    steepness≥0 = λ leg. steep≥0 h (pos (greatest_step h)) steps leg;
    steepness_in_reach = λ leg. steep_in_reach h heights leg (lies_on_map leg) (pos (greatest_step h)) (natural≥0 (greatest_step h)) (let small = largest≤316 h heights in omega (arith, ints));
    reach_in_limit = record { le = tt };
    holds = λ leg. piece_holds h (pos (greatest_step h)) steps leg (lies_on_map leg);
    low_near = λ leg. piece_low h (pos (greatest_step h)) steps leg (lies_on_map leg);
    high_near = λ leg. piece_high h (pos (greatest_step h)) steps leg (lies_on_map leg);
  }
