-- The bound by the formula of one cell: it holds the value at every place of the piece, and its ends lie within L r of the value at the middle.
use Rattle.std.proofs.Common.{◌≡◌, ℕ, suc, ◌<◌, ℤ, pos, ◌+ℤ◌, ◌-ℤ◌, ◌*ℤ◌, neg_ℤ, ◌≤ℤ◌, refl, ap, ◌∙◌, subst, ap₂, arith}
use Rattle.affine.proofs.Holding.{holds_sum, scaled_holds, shifted_holds, product_holds, rescaled_holds, holds_opposite}
use Rattle.affine.specs.Forms.{sum_of, scaled_by, product_of, opposite_of}
use Rattle.affine.specs.Holding.{Holds}
use Rattle.affine.specs.declared.Form.{Form}
use Rattle.integer.proofs.Absolute.{under, over, within_from, within_same, within_self, within_abs, abs≥0, within_sum, within_product, within_neg, abs_of, abs_product, bound≥0, abs_least}
use Rattle.integer.proofs.Order.{gap, sum≥0, product≥0, cancel≥0, ≥0_same, by_gap, natural≥0}
use Rattle.integer.proofs.Ring.{ring, ◌:+◌, ◌:-◌, ◌:*◌, con, neg, ◌:=◌}
use Rattle.integer.specs.Numbers.{Within, absℤ}
use Rattle.lattice.specs.Surface.{into, InCell, Steps}
use Rattle.lattice.specs.Terrain.{from_edge, width, into_x, into_y, value_in, steepness, even, surface_form, form_in}
use Rattle.leg.proofs.Places.{near_middle}
use Rattle.leg.specs.Places.{OnPiece, coordinate}
use Rattle.leg.specs.declared.shapes.Leg.{Leg}

-- ---- (i) the form holds the formula's value, wherever the place lies

module _ (m r p q : ℤ) where
  -- a number that changes evenly: a at the middle, c for each half-step
  even_holds : (a c : ℤ) → pos 1 ≤ℤ q → Holds m r p q (even a (c *ℤ r)) (a *ℤ q +ℤ c *ℤ (p -ℤ m *ℤ q)) q
  even_holds a c q≥1 = record {
    bottom = q≥1;
    close = within_same (within_self (natural≥0 0))
        (ring 5 (λ a c r q t. con (pos 0) := r :* (q :* (a :* q :+ c :* t) :- a :* q :* q) :- c :* r :* q :* t) refl a c r q (p -ℤ m *ℤ q))
        (ring 2 (λ r q. con (pos 0) := con (pos 0) :* r :* q :* q) refl r q);
  }

  coordinate_holds : (a b : ℤ) → pos 1 ≤ℤ q → Holds m r p q (even (coordinate a b m (pos 1)) ((b -ℤ a) *ℤ r)) (coordinate a b p q) q
  coordinate_holds a b q≥1 =
      subst (λ (n : ℤ). Holds m r p q (even (coordinate a b m (pos 1)) ((b -ℤ a) *ℤ r)) n q)
      (ring 5 (λ a b m p q. (con (pos 4096) :* a :* con (pos 1) :+ (b :- a) :* m) :* q :+ (b :- a) :* (p :- m :* q) := con (pos 4096) :* a :* q :+ (b :- a) :* p) refl a b m p q)
      (even_holds (coordinate a b m (pos 1)) (b -ℤ a) q≥1)

  -- the numbers of the place, from those of the middle
  into_from_middle : (a b : ℤ) (i : ℕ) → into (width (pos 1)) i (from_edge a b m (pos 1)) *ℤ q +ℤ (b -ℤ a) *ℤ (p -ℤ m *ℤ q) ≡ into (width q) i (from_edge a b p q)
  into_from_middle a b i =
      ring 6 (λ a b m p q c.
      (con (pos 4096) :* a :* con (pos 1) :+ (b :- a) :* m :+ con (pos 16777216) :* con (pos 1) :- con (pos 262144) :* con (pos 1) :* c) :* q :+ (b :- a) :* (p :- m :* q)
      := con (pos 4096) :* a :* q :+ (b :- a) :* p :+ con (pos 16777216) :* q :- con (pos 262144) :* q :* c) refl a b m p q (pos i)

  into_holds : (a b : ℤ) (i : ℕ) → pos 1 ≤ℤ q →
      Holds m r p q (even (into (width (pos 1)) i (from_edge a b m (pos 1))) ((b -ℤ a) *ℤ r)) (into (width q) i (from_edge a b p q)) q
  into_holds a b i q≥1 =
      subst (λ (n : ℤ). Holds m r p q (even (into (width (pos 1)) i (from_edge a b m (pos 1))) ((b -ℤ a) *ℤ r)) n q) (into_from_middle a b i)
      (even_holds (into (width (pos 1)) i (from_edge a b m (pos 1))) (b -ℤ a) q≥1)

  pub form_in_holds : (h : ℕ → ℕ → ℤ) (leg : Leg) (i j : ℕ) → OnPiece m r p q → Holds m r p q (form_in h leg i j m r) (value_in h leg i j p q) (q *ℤ q)
  form_in_holds h leg i j at =
      let f : Form = even (into_x leg i m (pos 1)) ((leg.end.x -ℤ leg.start.x) *ℤ r) in
      let g : Form = even (into_y leg j m (pos 1)) ((leg.end.y -ℤ leg.start.y) *ℤ r) in
      let z : Form = even (coordinate leg.start.z leg.end.z m (pos 1)) ((leg.end.z -ℤ leg.start.z) *ℤ r) in
      let fq : ℤ = into_x leg i p q in
      let gq : ℤ = into_y leg j p q in
      let zq : ℤ = coordinate leg.start.z leg.end.z p q in
      let kx : ℤ = pos 262144 *ℤ (h (suc i) j -ℤ h i j) in
      let ky : ℤ = pos 262144 *ℤ (h i (suc j) -ℤ h i j) in
      let kxy : ℤ = h i j -ℤ h (suc i) j -ℤ h i (suc j) +ℤ h (suc i) (suc j) in
      let f-holds : Holds m r p q f fq q = into_holds leg.start.x leg.end.x i at.parts in
      let g-holds : Holds m r p q g gq q = into_holds leg.start.y leg.end.y j at.parts in
      let z-holds : Holds m r p q z zq q = coordinate_holds leg.start.z leg.end.z at.parts in
      let linear : Holds m r p q (sum_of (scaled_by kx f) (scaled_by ky g)) (kx *ℤ (q *ℤ fq) +ℤ ky *ℤ (q *ℤ gq)) (q *ℤ q) =
      holds_sum m r p q (scaled_by kx f) (scaled_by ky g) (kx *ℤ (q *ℤ fq)) (ky *ℤ (q *ℤ gq)) (q *ℤ q)
      (scaled_holds m r p q kx f (q *ℤ fq) (q *ℤ q) (rescaled_holds m r p q q f fq q at.parts f-holds))
      (scaled_holds m r p q ky g (q *ℤ gq) (q *ℤ q) (rescaled_holds m r p q q g gq q at.parts g-holds)) in
      let twisted : Holds m r p q (scaled_by kxy (product_of f g)) (kxy *ℤ (fq *ℤ gq)) (q *ℤ q) =
      scaled_holds m r p q kxy (product_of f g) (fq *ℤ gq) (q *ℤ q) (product_holds m r p q at f g fq q gq q f-holds g-holds) in
      let ground : Holds m r p q (surface_form h i j f g) (kx *ℤ (q *ℤ fq) +ℤ ky *ℤ (q *ℤ gq) +ℤ kxy *ℤ (fq *ℤ gq) +ℤ pos 68719476736 *ℤ h i j *ℤ (q *ℤ q)) (q *ℤ q) =
      shifted_holds m r p q (pos 68719476736 *ℤ h i j) (sum_of (sum_of (scaled_by kx f) (scaled_by ky g)) (scaled_by kxy (product_of f g))) (kx *ℤ (q *ℤ fq) +ℤ ky *ℤ (q *ℤ gq) +ℤ kxy *ℤ (fq *ℤ gq)) (q *ℤ q)
      (holds_sum m r p q (sum_of (scaled_by kx f) (scaled_by ky g)) (scaled_by kxy (product_of f g)) (kx *ℤ (q *ℤ fq) +ℤ ky *ℤ (q *ℤ gq)) (kxy *ℤ (fq *ℤ gq)) (q *ℤ q) linear twisted) in
      subst (λ (n : ℤ). Holds m r p q (form_in h leg i j m r) n (q *ℤ q))
      (ring 8 (λ q z f g a b c d.
      con (pos 16777216) :* (q :* z) :+ neg (con (pos 262144) :* (b :- a) :* (q :* f) :+ con (pos 262144) :* (c :- a) :* (q :* g) :+ (a :- b :- c :+ d) :* (f :* g) :+ con (pos 68719476736) :* a :* (q :* q))
      := con (pos 16777216) :* z :* q :- (con (pos 68719476736) :* a :* (q :* q) :+ con (pos 262144) :* (b :- a) :* f :* q :+ con (pos 262144) :* (c :- a) :* g :* q :+ (a :- b :- c :+ d) :* f :* g)) refl
      q zq fq gq (h i j) (h (suc i) j) (h i (suc j)) (h (suc i) (suc j)))
      (holds_sum m r p q (scaled_by (pos 16777216) z) (opposite_of (surface_form h i j f g)) (pos 16777216 *ℤ (q *ℤ zq)) _ (q *ℤ q)
      (scaled_holds m r p q (pos 16777216) z (q *ℤ zq) (q *ℤ q) (rescaled_holds m r p q q z zq q at.parts z-holds))
      (holds_opposite m r p q (surface_form h i j f g) _ (q *ℤ q) ground))

-- ---- (ii) a piece whose ends lie in a closed cell lies in it

module _ (a b m r : ℤ) (i : ℕ)
    (at_start : InCell (width (pos 1)) i (from_edge a b (m -ℤ r) (pos 1))) (at_end : InCell (width (pos 1)) i (from_edge a b (m +ℤ r) (pos 1))) where
  middle : ℤ
  middle = into (width (pos 1)) i (from_edge a b m (pos 1))

  back : into (width (pos 1)) i (from_edge a b (m -ℤ r) (pos 1)) ≡ middle -ℤ (b -ℤ a) *ℤ r
  unfolding middle
  back = ring 5 (λ a b m r c. con (pos 4096) :* a :* con (pos 1) :+ (b :- a) :* (m :- r) :+ con (pos 16777216) :* con (pos 1) :- con (pos 262144) :* con (pos 1) :* c
      := (con (pos 4096) :* a :* con (pos 1) :+ (b :- a) :* m :+ con (pos 16777216) :* con (pos 1) :- con (pos 262144) :* con (pos 1) :* c) :- (b :- a) :* r) refl a b m r (pos i)

  on : into (width (pos 1)) i (from_edge a b (m +ℤ r) (pos 1)) ≡ middle +ℤ (b -ℤ a) *ℤ r
  unfolding middle
  on = ring 5 (λ a b m r c. con (pos 4096) :* a :* con (pos 1) :+ (b :- a) :* (m :+ r) :+ con (pos 16777216) :* con (pos 1) :- con (pos 262144) :* con (pos 1) :* c
      := (con (pos 4096) :* a :* con (pos 1) :+ (b :- a) :* m :+ con (pos 16777216) :* con (pos 1) :- con (pos 262144) :* con (pos 1) :* c) :+ (b :- a) :* r) refl a b m r (pos i)

  -- the move from the middle to an end stays above the cell's low edge and below its high edge
  pub above_edge : Within ((b -ℤ a) *ℤ r) (into (width (pos 1)) i (from_edge a b m (pos 1)))
  unfolding middle
  above_edge = within_from _ _ (≥0_same at_start.from back) (≥0_same at_end.from on)

  pub below_edge : Within ((b -ℤ a) *ℤ r) (pos 262144 -ℤ into (width (pos 1)) i (from_edge a b m (pos 1)))
  unfolding middle
  below_edge =
      within_from _ _
      (≥0_same (gap at_end.to) (ap (λ (x : ℤ). pos 262144 -ℤ x) on ∙ ring 3 (λ s f c. s :- (f :+ c) := s :- f :- c) refl (pos 262144) middle ((b -ℤ a) *ℤ r)))
      (≥0_same (gap at_start.to) (ap (λ (x : ℤ). pos 262144 -ℤ x) back ∙ ring 3 (λ s f c. s :- (f :- c) := s :- f :+ c) refl (pos 262144) middle ((b -ℤ a) *ℤ r)))

  pub place_in_cell : (p q : ℤ) → OnPiece m r p q → InCell (width q) i (from_edge a b p q)
  place_in_cell p q at =
      let f : ℤ = into (width (pos 1)) i (from_edge a b m (pos 1)) in
      record {
        from = cancel≥0 r (into (width q) i (from_edge a b p q)) at.wide
            (≥0_same (over (within_product above_edge (near_middle at)))
            (ring 5 (λ f c r q t. f :* (r :* q) :+ c :* r :* t := r :* (f :* q :+ c :* t)) refl f (b -ℤ a) r q (p -ℤ m *ℤ q) ∙ ap (λ (x : ℤ). r *ℤ x) (into_from_middle m r p q a b i)));
        to = by_gap _ _ _
            (cancel≥0 r (width q -ℤ (f *ℤ q +ℤ (b -ℤ a) *ℤ (p -ℤ m *ℤ q))) at.wide
            (≥0_same (under (within_product below_edge (near_middle at)))
            (ring 5 (λ f c r q t. (con (pos 262144) :- f) :* (r :* q) :- c :* r :* t := r :* (con (pos 262144) :* q :- (f :* q :+ c :* t))) refl f (b -ℤ a) r q (p -ℤ m *ℤ q))))
            (ap (λ (x : ℤ). width q -ℤ x) (into_from_middle m r p q a b i));
      }

-- ---- (iii) the ends

-- L r, with the half-width in the moves
pub steep_times : (D : ℤ) (leg : Leg) (r : ℤ) → pos 0 ≤ℤ r →
    pos 16777216 *ℤ absℤ ((leg.end.z -ℤ leg.start.z) *ℤ r) +ℤ pos 786432 *ℤ D *ℤ (absℤ ((leg.end.x -ℤ leg.start.x) *ℤ r) +ℤ absℤ ((leg.end.y -ℤ leg.start.y) *ℤ r)) ≡ steepness D leg *ℤ r
unfolding steepness
steep_times D leg r r≥0 =
    ap₂ (λ (c ab : ℤ). pos 16777216 *ℤ c +ℤ pos 786432 *ℤ D *ℤ ab) (move (leg.end.z -ℤ leg.start.z)) (ap₂ ◌+ℤ◌ (move (leg.end.x -ℤ leg.start.x)) (move (leg.end.y -ℤ leg.start.y)))
    ∙ ring 5 (λ d x y z r. con (pos 16777216) :* (z :* r) :+ con (pos 786432) :* d :* (x :* r :+ y :* r) := (con (pos 16777216) :* z :+ con (pos 786432) :* d :* (x :+ y)) :* r) refl
    D (absℤ (leg.end.x -ℤ leg.start.x)) (absℤ (leg.end.y -ℤ leg.start.y)) (absℤ (leg.end.z -ℤ leg.start.z)) r
  where
    move : (d : ℤ) → absℤ (d *ℤ r) ≡ absℤ d *ℤ r
    move d = abs_product d r ∙ ap (λ (x : ℤ). absℤ d *ℤ x) (abs_of r≥0)

module _ (h : ℕ → ℕ → ℤ) (D : ℤ) (steps : Steps h D) (i j : ℕ) (i< : i < 128) (j< : j < 128) where
  twist : ℤ
  twist = h i j -ℤ h (suc i) j -ℤ h i (suc j) +ℤ h (suc i) (suc j)

  twist_within : Within twist (D +ℤ D)
  unfolding twist
  twist_within =
      within_same (within_sum (steps.east i (suc j) i< (omega arith)) (within_neg (steps.east i j i< (omega arith))))
      (ring 4 (λ a b c d. (d :- c) :+ neg (b :- a) := a :- b :- c :+ d) refl (h i j) (h (suc i) j) (h i (suc j)) (h (suc i) (suc j))) refl

  -- f, g: where the middle lies in the cell; a, b, c: the moves from there to the end in x, y and z
  slope_within : (f g a b c : ℤ) → pos 0 ≤ℤ f → pos 0 ≤ℤ g →
      Within (pos 16777216 *ℤ c +ℤ neg_ℤ (pos 262144 *ℤ (h (suc i) j -ℤ h i j) *ℤ a +ℤ pos 262144 *ℤ (h i (suc j) -ℤ h i j) *ℤ b +ℤ twist *ℤ (f *ℤ b +ℤ g *ℤ a)))
      (pos 16777216 *ℤ absℤ c +ℤ (pos 262144 *ℤ D *ℤ absℤ a +ℤ pos 262144 *ℤ D *ℤ absℤ b +ℤ (D +ℤ D) *ℤ (f *ℤ absℤ b +ℤ g *ℤ absℤ a)))
  slope_within f g a b c f≥0 g≥0 =
      let width_is : Within (pos 262144) (pos 262144) = within_self (natural≥0 262144) in
      within_sum (within_product (within_self (natural≥0 16777216)) (within_abs c))
      (within_neg (within_sum
      (within_sum
      (within_product (within_product width_is (steps.east i j i< (omega arith))) (within_abs a))
      (within_product (within_product width_is (steps.north i j (omega arith) j<)) (within_abs b)))
      (within_product twist_within (within_sum (within_product (within_self f≥0) (within_abs b)) (within_product (within_self g≥0) (within_abs a))))))

  -- L r − |slope| − slack is what the bound of the slope leaves, what the bound of the twist leaves, and 2 D ((2^18 − f − |a|) |b| + (2^18 − g) |a|)
  slope_and_slack : (f g a b c : ℤ) → pos 0 ≤ℤ f → pos 0 ≤ℤ g → Within a (pos 262144 -ℤ f) → g ≤ℤ pos 262144 → (z : ℤ) →
      let u : Form = sum_of (scaled_by (pos 16777216) (even z c)) (opposite_of (surface_form h i j (even f a) (even g b))) in
      (absℤ u.u1 +ℤ u.u2) ≤ℤ (pos 16777216 *ℤ absℤ c +ℤ pos 786432 *ℤ D *ℤ (absℤ a +ℤ absℤ b))
  unfolding twist product_of
  slope_and_slack f g a b c f≥0 g≥0 a_in g-in z =
      let D≥0 : pos 0 ≤ℤ D = bound≥0 (steps.east i j i< (omega arith)) in
      by_gap _ _ _
      (sum≥0 (sum≥0
      (gap (abs_least (slope_within f g a b c f≥0 g≥0)))
      (product≥0 (gap (abs_least twist_within)) (product≥0 (abs≥0 a) (abs≥0 b))))
      (product≥0 (sum≥0 D≥0 D≥0) (sum≥0 (product≥0 (gap (abs_least a_in)) (abs≥0 b)) (product≥0 (gap g-in) (abs≥0 a)))))
      (ring 12 (λ sl tw d f g a b c kx ky f' g'.
      (con (pos 16777216) :* c :+ (con (pos 262144) :* d :* a :+ con (pos 262144) :* d :* b :+ (d :+ d) :* (f :* b :+ g :* a)) :- sl)
      :+ (d :+ d :- tw) :* (a :* b)
      :+ (d :+ d) :* ((con (pos 262144) :- f :- a) :* b :+ (con (pos 262144) :- g) :* a)
      := con (pos 16777216) :* c :+ con (pos 786432) :* d :* (a :+ b)
      :- (sl :+ (con (pos 16777216) :* con (pos 0) :+ (kx :* con (pos 0) :+ ky :* con (pos 0) :+ tw :* (f' :* con (pos 0) :+ g' :* con (pos 0) :+ (a :+ con (pos 0)) :* (b :+ con (pos 0))))))) refl
      (absℤ (pos 16777216 *ℤ c +ℤ neg_ℤ (pos 262144 *ℤ (h (suc i) j -ℤ h i j) *ℤ a +ℤ pos 262144 *ℤ (h i (suc j) -ℤ h i j) *ℤ b +ℤ twist *ℤ (f *ℤ b +ℤ g *ℤ a))))
      (absℤ twist) D f g (absℤ a) (absℤ b) (absℤ c)
      (absℤ (pos 262144 *ℤ (h (suc i) j -ℤ h i j))) (absℤ (pos 262144 *ℤ (h i (suc j) -ℤ h i j))) (absℤ f) (absℤ g))

  -- the form's slope and slack are within L r
  pub form_in_narrow : (leg : Leg) (m r : ℤ) → pos 0 ≤ℤ r →
      InCell (width (pos 1)) i (from_edge leg.start.x leg.end.x (m -ℤ r) (pos 1)) → InCell (width (pos 1)) i (from_edge leg.start.x leg.end.x (m +ℤ r) (pos 1)) →
      InCell (width (pos 1)) j (from_edge leg.start.y leg.end.y (m -ℤ r) (pos 1)) → InCell (width (pos 1)) j (from_edge leg.start.y leg.end.y (m +ℤ r) (pos 1)) →
      (absℤ (form_in h leg i j m r).u1 +ℤ (form_in h leg i j m r).u2) ≤ℤ (steepness D leg *ℤ r)
  form_in_narrow leg m r r≥0 x_start x_end y_start y_end =
      subst (λ (l : ℤ). (absℤ (form_in h leg i j m r).u1 +ℤ (form_in h leg i j m r).u2) ≤ℤ l) (steep_times D leg r r≥0)
      (slope_and_slack (into_x leg i m (pos 1)) (into_y leg j m (pos 1)) ((leg.end.x -ℤ leg.start.x) *ℤ r) ((leg.end.y -ℤ leg.start.y) *ℤ r) ((leg.end.z -ℤ leg.start.z) *ℤ r)
      (bound≥0 (above_edge leg.start.x leg.end.x m r i x_start x_end))
      (bound≥0 (above_edge leg.start.y leg.end.y m r j y_start y_end))
      (below_edge leg.start.x leg.end.x m r i x_start x_end)
      (by_gap _ _ _ (bound≥0 (below_edge leg.start.y leg.end.y m r j y_start y_end)) refl)
      (coordinate leg.start.z leg.end.z m (pos 1)))

-- the form's base is the formula's value at the middle
pub form_in_base : (h : ℕ → ℕ → ℤ) (leg : Leg) (i j : ℕ) (m r : ℤ) → (form_in h leg i j m r).u0 ≡ value_in h leg i j m (pos 1)
unfolding product_of
form_in_base h leg i j m r =
    ring 7 (λ z f g a b c d.
    con (pos 16777216) :* z :+ neg (con (pos 262144) :* (b :- a) :* f :+ con (pos 262144) :* (c :- a) :* g :+ (a :- b :- c :+ d) :* (f :* g) :+ con (pos 68719476736) :* a)
    := con (pos 16777216) :* z :* con (pos 1)
    :- (con (pos 68719476736) :* a :* (con (pos 1) :* con (pos 1)) :+ con (pos 262144) :* (b :- a) :* f :* con (pos 1) :+ con (pos 262144) :* (c :- a) :* g :* con (pos 1) :+ (a :- b :- c :+ d) :* f :* g)) refl
    (coordinate leg.start.z leg.end.z m (pos 1)) (into_x leg i m (pos 1)) (into_y leg j m (pos 1)) (h i j) (h (suc i) j) (h i (suc j)) (h (suc i) (suc j))
