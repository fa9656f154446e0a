-- A quadric is lawful: it is the sum of one part for each axis, s D² + 4096 l D, and a constant. Each part is lawful, and so is their sum.
use Rattle.std.specs.Prelude.{◌≡◌, ℤ, pos, ◌+ℤ◌, ◌-ℤ◌, ◌*ℤ◌, ◌≤ℤ◌}
use Rattle.std.proofs.Math.Path.{refl, ap}
use Rattle.std.proofs.Common.{sym, ap₂, subst, ◌∙◌}
use Rattle.integer.specs.Numbers.{Within, absℤ}
use Rattle.integer.proofs.Ring.{ring, ◌:+◌, ◌:-◌, ◌:*◌, con, ◌:=◌}
use Rattle.integer.proofs.Order.{≤ℤ_trans, natural≥0, weaker, gap, sum≥0, product≥0, product≥1, by_gap}
use Rattle.integer.proofs.Absolute.{abs≥0, abs_of, abs_product, abs_least, within_natural, within_same, within_self, within_neg, within_sum, within_product, within_abs}
use Rattle.leg.specs.declared.shapes.Leg.{Leg}
use Rattle.leg.specs.Places.{OnLeg, OnPiece}
use Rattle.affine.specs.declared.Form.{Form}
use Rattle.affine.specs.Forms.{sum_of, scaled_by}
use Rattle.affine.specs.Holding.{Holds}
use Rattle.affine.proofs.Ends.{same_form}
use Rattle.affine.proofs.Holding.{holds_sum, scaled_holds, rescaled_holds}
use Rattle.nodes.specs.declared.node.Node.{Node}
use Rattle.nodes.specs.Quadrics.{offset, offset_x, offset_y, offset_z, form_x, form_y, form_z, square_of, line_of, quadric_value, quadric_steepness, quadric_reach, quadric_form}
use Rattle.nodes.specs.Formed.{InRange}
use Rattle.nodes.specs.Numbers.{abs_both, height_in}
use Rattle.nodes.specs.Squares.{square_holds, square_line}
use Rattle.nodes.specs.Lawful.{Span, Meaning, Lawful, Near, NearForm, meanings}
use Rattle.nodes.specs.Combining.{sum_lawful}

-- a form whose first number is v, and whose other two make up at most d
near_narrow : (v d : ℤ) (u : Form) → u.u0 ≡ v → (absℤ u.u1 +ℤ u.u2) ≤ℤ d → NearForm v d u
near_narrow v d u e h = plain u.u0 (absℤ u.u1) u.u2 e h
  where
    plain : (a b c : ℤ) → a ≡ v → (b +ℤ c) ≤ℤ d → Near v d (a -ℤ b -ℤ c) (a +ℤ b +ℤ c)
    plain a b c e h =
        subst (λ (x : ℤ). Near x d (a -ℤ b -ℤ c) (a +ℤ b +ℤ c)) e
        (record {
          low = by_gap _ _ _ (gap h) (ring 4 (λ a b c d. d :- (b :+ c) := (a :- b :- c) :- (a :- d)) refl a b c d);
          high = by_gap _ _ _ (gap h) (ring 4 (λ a b c d. d :- (b :+ c) := (a :+ d) :- (a :+ b :+ c)) refl a b c d);
        })

-- a number that changes by d in each half-step, and is x at the middle
line_holds : (m r p q x d : ℤ) → pos 1 ≤ℤ q → Holds m r p q (line_of x (d *ℤ r)) (x *ℤ q +ℤ d *ℤ (p -ℤ m *ℤ q)) q
line_holds m r p q x d q≥1 = record {
  bottom = q≥1;
  close = within_same (within_self (natural≥0 0))
      (ring 5 (λ r q t x d. con (pos 0) := r :* (q :* (x :* q :+ d :* t) :- x :* q :* q) :- (d :* r) :* q :* t) refl r q (p -ℤ m *ℤ q) x d)
      (ring 2 (λ r q. con (pos 0) := con (pos 0) :* r :* q :* q) refl r q);
}

-- ---- one axis: the leg's coordinate goes from a to b, the centre's is c

abbrev axis_value : (a b c s l p q : ℤ) → ℤ
axis_value a b c s l p q = s *ℤ (offset a b c p q *ℤ offset a b c p q) +ℤ pos 4096 *ℤ l *ℤ offset a b c p q *ℤ q

abbrev axis_steepness : (a b s l : ℤ) → ℤ
axis_steepness a b s l = pos 67108864 *ℤ absℤ (s *ℤ (b -ℤ a)) +ℤ pos 4096 *ℤ absℤ (l *ℤ (b -ℤ a))

abbrev axis_reach : (s l : ℤ) → ℤ
axis_reach s l = pos 1125899906842624 *ℤ absℤ s +ℤ pos 137438953472 *ℤ absℤ l

-- D is x at the middle and changes by k from there to the end
abbrev pub line_axis : (x k s l : ℤ) → Form
line_axis x k s l = sum_of (scaled_by s (square_of (line_of x k))) (scaled_by (pos 4096 *ℤ l) (line_of x k))

abbrev pub axis_form : (a b c s l m r : ℤ) → Form
axis_form a b c s l m r = line_axis (offset a b c m (pos 1)) ((b -ℤ a) *ℤ r) s l

abbrev axis : (a b c s l : ℤ) → Meaning
axis a b c s l = record {
  value = λ (p q : ℤ). axis_value a b c s l p q;
  steepness = axis_steepness a b s l;
  reach = axis_reach s l;
  form = λ (m r : ℤ). axis_form a b c s l m r;
}

-- the leg's two ends lie within 2^13 of the centre and of each other
pub record Close (a b c : ℤ) : Type 0 where
  pub start : Within (a -ℤ c) (pos 8192)
  pub end : Within (b -ℤ c) (pos 8192)
  pub move : Within (b -ℤ a) (pos 8192)

module _ (a b c s l : ℤ) where
  -- D at one fraction
  offset_over : (p q p' q' : ℤ) → p *ℤ q' ≡ p' *ℤ q → offset a b c p q *ℤ q' ≡ offset a b c p' q' *ℤ q
  offset_over p q p' q' same =
      ring 6 (λ a b c p q q'. (con (pos 4096) :* a :* q :+ (b :- a) :* p :- con (pos 4096) :* c :* q) :* q' := con (pos 4096) :* (a :- c) :* (q :* q') :+ (b :- a) :* (p :* q')) refl a b c p q q'
      ∙ ap (λ (x : ℤ). pos 4096 *ℤ (a -ℤ c) *ℤ (q *ℤ q') +ℤ (b -ℤ a) *ℤ x) same
      ∙ ring 6 (λ a b c p' q q'. con (pos 4096) :* (a :- c) :* (q :* q') :+ (b :- a) :* (p' :* q) := (con (pos 4096) :* a :* q' :+ (b :- a) :* p' :- con (pos 4096) :* c :* q') :* q) refl a b c p' q q'

  axis_same : (p q p' q' : ℤ) → p *ℤ q' ≡ p' *ℤ q → axis_value a b c s l p q *ℤ (q' *ℤ q') ≡ axis_value a b c s l p' q' *ℤ (q *ℤ q)
  axis_same p q p' q' same =
      ring 5 (λ s l x q q'. (s :* (x :* x) :+ con (pos 4096) :* l :* x :* q) :* (q' :* q') := s :* ((x :* q') :* (x :* q')) :+ con (pos 4096) :* l :* (x :* q') :* (q :* q')) refl s l (offset a b c p q) q q'
      ∙ ap (λ (y : ℤ). s *ℤ (y *ℤ y) +ℤ pos 4096 *ℤ l *ℤ y *ℤ (q *ℤ q')) (offset_over p q p' q' same)
      ∙ ring 5 (λ s l x q q'. s :* ((x :* q) :* (x :* q)) :+ con (pos 4096) :* l :* (x :* q) :* (q :* q') := (s :* (x :* x) :+ con (pos 4096) :* l :* x :* q') :* (q :* q)) refl s l (offset a b c p' q') q q'

  axis_holds : (m r p q : ℤ) → OnPiece m r p q → Holds m r p q (axis_form a b c s l m r) (axis_value a b c s l p q) (q *ℤ q)
  axis_holds m r p q at =
      let e : Form = line_of (offset a b c m (pos 1)) ((b -ℤ a) *ℤ r) in
      let x : ℤ = offset a b c p q in
      let e-holds : Holds m r p q e x q =
      subst (λ (n : ℤ). Holds m r p q (line_of (offset a b c m (pos 1)) ((b -ℤ a) *ℤ r)) n q)
      (ring 6 (λ a b c m p q. (con (pos 4096) :* a :* con (pos 1) :+ (b :- a) :* m :- con (pos 4096) :* c :* con (pos 1)) :* q :+ (b :- a) :* (p :- m :* q)
      := con (pos 4096) :* a :* q :+ (b :- a) :* p :- con (pos 4096) :* c :* q) refl a b c m p q)
      (line_holds m r p q (offset a b c m (pos 1)) (b -ℤ a) at.parts) in
      subst (λ (n : ℤ). Holds m r p q (axis_form a b c s l m r) n (q *ℤ q))
      (ring 4 (λ s l x q. s :* (x :* x) :+ con (pos 4096) :* l :* (q :* x) := s :* (x :* x) :+ con (pos 4096) :* l :* x :* q) refl s l x q)
      (holds_sum m r p q (scaled_by s (square_of e)) (scaled_by (pos 4096 *ℤ l) e) (s *ℤ (x *ℤ x)) (pos 4096 *ℤ l *ℤ (q *ℤ x)) (q *ℤ q)
      (scaled_holds m r p q s (square_of e) (x *ℤ x) (q *ℤ q) (square_holds m r p q at e x q e-holds))
      (scaled_holds m r p q (pos 4096 *ℤ l) e (q *ℤ x) (q *ℤ q) (rescaled_holds m r p q q e x q at.parts e-holds)))

  -- L r in |s|, |l| and the change to the end of the piece
  steepness_times : (r : ℤ) → pos 0 ≤ℤ r → pos 67108864 *ℤ (absℤ s *ℤ absℤ ((b -ℤ a) *ℤ r)) +ℤ pos 4096 *ℤ (absℤ l *ℤ absℤ ((b -ℤ a) *ℤ r)) ≡ axis_steepness a b s l *ℤ r
  steepness_times r r≥0 =
      ap (λ (k : ℤ). pos 67108864 *ℤ (absℤ s *ℤ k) +ℤ pos 4096 *ℤ (absℤ l *ℤ k)) (abs_product (b -ℤ a) r ∙ ap (λ (x : ℤ). absℤ (b -ℤ a) *ℤ x) (abs_of r≥0))
      ∙ ring 4 (λ s l d r. con (pos 67108864) :* (s :* (d :* r)) :+ con (pos 4096) :* (l :* (d :* r)) := (con (pos 67108864) :* (s :* d) :+ con (pos 4096) :* (l :* d)) :* r) refl
      (absℤ s) (absℤ l) (absℤ (b -ℤ a)) r
      ∙ ap₂ (λ (x y : ℤ). (pos 67108864 *ℤ x +ℤ pos 4096 *ℤ y) *ℤ r) (sym (abs_product s (b -ℤ a))) (sym (abs_product l (b -ℤ a)))

  -- x: D at the middle; k: the change from there to the end. With |x| + |k| ≤ 2^25,
  -- 2^26 |s| |k| + 4096 |l| |k| less the second number's size and the third is what the bound of the second leaves, and |s| |k| (2 (2^25 − |x| − |k|) + |k|)
  line_near : (x k : ℤ) → (absℤ x +ℤ absℤ k) ≤ℤ pos 33554432 → NearForm (s *ℤ (x *ℤ x) +ℤ pos 4096 *ℤ l *ℤ x) (pos 67108864 *ℤ (absℤ s *ℤ absℤ k) +ℤ pos 4096 *ℤ (absℤ l *ℤ absℤ k)) (line_axis x k s l)
  line_near x k inside =
      subst (λ (w : Form). NearForm (s *ℤ (x *ℤ x) +ℤ pos 4096 *ℤ l *ℤ x) (pos 67108864 *ℤ (absℤ s *ℤ absℤ k) +ℤ pos 4096 *ℤ (absℤ l *ℤ absℤ k)) (sum_of (scaled_by s w) (scaled_by (pos 4096 *ℤ l) (line_of x k))))
      (sym (square_line x k))
      (near_narrow _ _ (sum_of (scaled_by s (record { u0 = x *ℤ x; u1 = x *ℤ k +ℤ x *ℤ k; u2 = absℤ k *ℤ absℤ k })) (scaled_by (pos 4096 *ℤ l) (line_of x k))) refl
      (by_gap _ _ _
      (sum≥0
      (gap (abs_least (within_sum
      (within_product (within_abs s) (within_sum (within_product (within_abs x) (within_abs k)) (within_product (within_abs x) (within_abs k))))
      (within_product (within_product (within_self (natural≥0 4096)) (within_abs l)) (within_abs k)))))
      (product≥0 (product≥0 (abs≥0 s) (abs≥0 k)) (sum≥0 (product≥0 (natural≥0 2) (gap inside)) (abs≥0 k))))
      (ring 6 (λ sl s l x k l'.
      ((s :* (x :* k :+ x :* k) :+ con (pos 4096) :* l :* k) :- sl) :+ s :* k :* (con (pos 2) :* (con (pos 33554432) :- (x :+ k)) :+ k)
      := (con (pos 67108864) :* (s :* k) :+ con (pos 4096) :* (l :* k)) :- (sl :+ (s :* (k :* k) :+ l' :* con (pos 0)))) refl
      (absℤ (s *ℤ (x *ℤ k +ℤ x *ℤ k) +ℤ pos 4096 *ℤ l *ℤ k)) (absℤ s) (absℤ l) (absℤ x) (absℤ k) (absℤ (pos 4096 *ℤ l)))))

  module _ (close : Close a b c) where
    -- a place is a weighted mean of the two ends: (a − c) (4096 q − p) + (b − c) p
    offset_within : (p q : ℤ) → OnLeg p q → Within (offset a b c p q) (pos 33554432 *ℤ q)
    offset_within p q at =
        within_same (within_sum (within_product close.start (within_self (gap at.to))) (within_product close.end (within_self at.from)))
        (ring 5 (λ a b c p q. (a :- c) :* (con (pos 4096) :* q :- p) :+ (b :- c) :* p := con (pos 4096) :* a :* q :+ (b :- a) :* p :- con (pos 4096) :* c :* q) refl a b c p q)
        (ring 2 (λ p q. con (pos 8192) :* (con (pos 4096) :* q :- p) :+ con (pos 8192) :* p := con (pos 33554432) :* q) refl p q)

    axis_in_reach : (p q : ℤ) → OnLeg p q → Within (axis_value a b c s l p q) (axis_reach s l *ℤ (q *ℤ q))
    axis_in_reach p q at =
        let x_in : Within (offset a b c p q) (pos 33554432 *ℤ q) = offset_within p q at in
        within_same
        (within_sum
        (within_product (within_abs s) (within_product x_in x_in))
        (within_product (within_product (within_product (within_self (natural≥0 4096)) (within_abs l)) x_in) (within_self (weaker at.parts))))
        refl
        (ring 3 (λ s l q. s :* ((con (pos 33554432) :* q) :* (con (pos 33554432) :* q)) :+ con (pos 4096) :* l :* (con (pos 33554432) :* q) :* q
        := (con (pos 1125899906842624) :* s :+ con (pos 137438953472) :* l) :* (q :* q)) refl (absℤ s) (absℤ l) q)

    axis_steepness_in_reach : (pos 2048 *ℤ axis_steepness a b s l) ≤ℤ axis_reach s l
    axis_steepness_in_reach =
        let d : ℤ = absℤ (b -ℤ a) in
        let rest : pos 0 ≤ℤ (pos 8192 -ℤ absℤ (b -ℤ a)) = gap (abs_least close.move) in
        by_gap _ _ _
        (sum≥0
        (sum≥0 (product≥0 (product≥0 (natural≥0 137438953472) (abs≥0 s)) rest) (product≥0 (product≥0 (natural≥0 8388608) (abs≥0 l)) rest))
        (product≥0 (natural≥0 68719476736) (abs≥0 l)))
        (ring 3 (λ s l d. con (pos 137438953472) :* s :* (con (pos 8192) :- d) :+ con (pos 8388608) :* l :* (con (pos 8192) :- d) :+ con (pos 68719476736) :* l
        := (con (pos 1125899906842624) :* s :+ con (pos 137438953472) :* l) :- con (pos 2048) :* (con (pos 67108864) :* (s :* d) :+ con (pos 4096) :* (l :* d))) refl (absℤ s) (absℤ l) d
        ∙ ap₂ (λ (x y : ℤ). axis_reach s l -ℤ pos 2048 *ℤ (pos 67108864 *ℤ x +ℤ pos 4096 *ℤ y)) (sym (abs_product s (b -ℤ a))) (sym (abs_product l (b -ℤ a))))

    -- |D| at the middle and its change from there to the end make up at most 2^25, since both ends of the piece are on the leg
    in_piece : (m r : ℤ) → Span m r → (absℤ (offset a b c m (pos 1)) +ℤ absℤ ((b -ℤ a) *ℤ r)) ≤ℤ pos 33554432
    in_piece m r span =
        abs_both (offset a b c m (pos 1)) ((b -ℤ a) *ℤ r) (pos 33554432)
        (within_same (offset_within (m +ℤ r) (pos 1) (record { parts = record { le = tt }; from = from_end; to = to_end }))
        (ring 5 (λ a b c m r. con (pos 4096) :* a :* con (pos 1) :+ (b :- a) :* (m :+ r) :- con (pos 4096) :* c :* con (pos 1)
        := (con (pos 4096) :* a :* con (pos 1) :+ (b :- a) :* m :- con (pos 4096) :* c :* con (pos 1)) :+ (b :- a) :* r) refl a b c m r) refl)
        (within_same (offset_within (m -ℤ r) (pos 1) (record { parts = record { le = tt }; from = gap span.from; to = to_start }))
        (ring 5 (λ a b c m r. con (pos 4096) :* a :* con (pos 1) :+ (b :- a) :* (m :- r) :- con (pos 4096) :* c :* con (pos 1)
        := (con (pos 4096) :* a :* con (pos 1) :+ (b :- a) :* m :- con (pos 4096) :* c :* con (pos 1)) :- (b :- a) :* r) refl a b c m r) refl)
      where
        from_end : pos 0 ≤ℤ (m +ℤ r)
        from_end = sum≥0 (≤ℤ_trans (weaker span.wide) span.from) (weaker span.wide)

        to_end : (m +ℤ r) ≤ℤ (pos 4096 *ℤ pos 1)
        to_end = span.to

        to_start : (m -ℤ r) ≤ℤ (pos 4096 *ℤ pos 1)
        to_start =
            by_gap _ _ _ (sum≥0 (gap span.to) (sum≥0 (weaker span.wide) (weaker span.wide)))
            (ring 2 (λ m r. (con (pos 4096) :- (m :+ r)) :+ (r :+ r) := con (pos 4096) :* con (pos 1) :- (m :- r)) refl m r)

    axis_near : (m r : ℤ) → Span m r → NearForm (axis_value a b c s l m (pos 1)) (axis_steepness a b s l *ℤ r) (axis_form a b c s l m r)
    axis_near m r span =
        subst (λ (v : ℤ). NearForm v (axis_steepness a b s l *ℤ r) (axis_form a b c s l m r))
        (ring 3 (λ s l x. s :* (x :* x) :+ con (pos 4096) :* l :* x := s :* (x :* x) :+ con (pos 4096) :* l :* x :* con (pos 1)) refl s l (offset a b c m (pos 1)))
        (subst (λ (d : ℤ). NearForm (s *ℤ (offset a b c m (pos 1) *ℤ offset a b c m (pos 1)) +ℤ pos 4096 *ℤ l *ℤ offset a b c m (pos 1)) d (axis_form a b c s l m r))
        (steepness_times r (weaker span.wide))
        (line_near (offset a b c m (pos 1)) ((b -ℤ a) *ℤ r) (in_piece m r span)))

    axis_lawful : Lawful (axis a b c s l)
    axis_lawful = record {
      same_fraction = λ p q p' q' at at' same. axis_same p q p' q' same;
      in_reach = axis_in_reach;
      steepness≥0 = sum≥0 (product≥0 (natural≥0 67108864) (abs≥0 (s *ℤ (b -ℤ a)))) (product≥0 (natural≥0 4096) (abs≥0 (l *ℤ (b -ℤ a))));
      steepness_in_reach = axis_steepness_in_reach;
      holds = axis_holds;
      near = axis_near;
    }

-- ---- a constant

abbrev constant : ℤ → Meaning
constant c = record {
  value = λ (p q : ℤ). c *ℤ (q *ℤ q);
  steepness = pos 0;
  reach = absℤ c;
  form = λ (m r : ℤ). line_of c (pos 0);
}

constant_lawful : (c : ℤ) → Lawful (constant c)
constant_lawful c = record {
  same_fraction = λ p q p' q' at at' same. ring 3 (λ c k k'. c :* k :* k' := c :* k' :* k) refl c (q *ℤ q) (q' *ℤ q');
  in_reach = λ p q at. within_product (within_abs c) (within_self (product≥0 (weaker at.parts) (weaker at.parts)));
  steepness≥0 = natural≥0 0;
  steepness_in_reach = abs≥0 c;
  holds = λ m r p q at. record {
    bottom = product≥1 at.parts at.parts;
    close = within_same (within_self (natural≥0 0))
        (ring 4 (λ c r q t. con (pos 0) := r :* (q :* (c :* (q :* q)) :- c :* q :* (q :* q)) :- con (pos 0) :* (q :* q) :* t) refl c r q (p -ℤ m *ℤ q))
        (ring 2 (λ r q. con (pos 0) := con (pos 0) :* r :* q :* (q :* q)) refl r q);
  };
  near = λ m r span.
      near_narrow _ _ (line_of c (pos 0)) (ring 1 (λ c. c := c :* (con (pos 1) :* con (pos 1))) refl c)
      (by_gap _ _ _ (natural≥0 0) (ring 1 (λ r. con (pos 0) := con (pos 0) :* r :- (con (pos 0) :+ con (pos 0))) refl r));
}

-- ---- the quadric

-- meanings with the same answers are the same
same_meaning : (a b : Meaning) → ((p q : ℤ) → a.value p q ≡ b.value p q) → a.steepness ≡ b.steepness → a.reach ≡ b.reach → ((m r : ℤ) → a.form m r ≡ b.form m r) → a ≡ b
same_meaning a b values steepnesses reaches forms = λ i. record { value = λ p q. values p q i; steepness = steepnesses i; reach = reaches i; form = λ m r. forms m r i }

-- numbers within 2^12
close_by : {a b c : ℤ} → Within a (pos 4096) → Within b (pos 4096) → Within c (pos 4096) → Close a b c
close_by u v w = record { start = within_sum u (within_neg w); end = within_sum v (within_neg w); move = within_sum v (within_neg u) }

-- the coordinates of a leg's ends
module _ (leg : Leg) where
  pub start_x_in : Within leg.start.x (pos 4096)
  start_x_in = within_natural leg.start.x 4096 leg.start_on_map.0

  pub start_y_in : Within leg.start.y (pos 4096)
  start_y_in = within_natural leg.start.y 4096 leg.start_on_map.1

  pub start_z_in : Within leg.start.z (pos 4096)
  start_z_in = height_in leg.start_on_map.2 leg.start_on_map.3

  pub end_x_in : Within leg.end.x (pos 4096)
  end_x_in = within_natural leg.end.x 4096 leg.end_on_map.0

  pub end_y_in : Within leg.end.y (pos 4096)
  end_y_in = within_natural leg.end.y 4096 leg.end_on_map.1

  pub end_z_in : Within leg.end.z (pos 4096)
  end_z_in = height_in leg.end_on_map.2 leg.end_on_map.3

module _ (leg : Leg) (node : Node) where
  in_x : Meaning
  in_x = axis leg.start.x leg.end.x node.px node.sx node.lx

  in_y : Meaning
  in_y = axis leg.start.y leg.end.y node.py node.sy node.ly

  in_z : Meaning
  in_z = axis leg.start.z leg.end.z node.pz node.sz node.lz

  in_parts : Meaning
  in_parts = (meanings leg).sum ((meanings leg).sum ((meanings leg).sum in_x in_y) in_z) (constant (pos 16777216 *ℤ node.k))

  same_value : (p q : ℤ) → in_parts.value p q ≡ quadric_value leg node p q
  unfolding in_parts in_x in_y in_z quadric_value
  same_value p q =
      ring 11 (λ sx sy sz lx ly lz x y z c q.
      (((sx :* (x :* x) :+ con (pos 4096) :* lx :* x :* q) :+ (sy :* (y :* y) :+ con (pos 4096) :* ly :* y :* q)) :+ (sz :* (z :* z) :+ con (pos 4096) :* lz :* z :* q)) :+ con (pos 16777216) :* c :* (q :* q)
      := sx :* (x :* x) :+ sy :* (y :* y) :+ sz :* (z :* z) :+ con (pos 4096) :* (lx :* x :+ ly :* y :+ lz :* z) :* q :+ con (pos 16777216) :* c :* (q :* q)) refl
      node.sx node.sy node.sz node.lx node.ly node.lz (offset_x leg node p q) (offset_y leg node p q) (offset_z leg node p q) node.k q

  same_steepness : in_parts.steepness ≡ quadric_steepness leg node
  unfolding in_parts in_x in_y in_z quadric_steepness
  same_steepness =
      ring 6 (λ sx sy sz lx ly lz.
      (((con (pos 67108864) :* sx :+ con (pos 4096) :* lx) :+ (con (pos 67108864) :* sy :+ con (pos 4096) :* ly)) :+ (con (pos 67108864) :* sz :+ con (pos 4096) :* lz)) :+ con (pos 0)
      := con (pos 67108864) :* (sx :+ sy :+ sz) :+ con (pos 4096) :* (lx :+ ly :+ lz)) refl
      (absℤ (node.sx *ℤ (leg.end.x -ℤ leg.start.x))) (absℤ (node.sy *ℤ (leg.end.y -ℤ leg.start.y))) (absℤ (node.sz *ℤ (leg.end.z -ℤ leg.start.z)))
      (absℤ (node.lx *ℤ (leg.end.x -ℤ leg.start.x))) (absℤ (node.ly *ℤ (leg.end.y -ℤ leg.start.y))) (absℤ (node.lz *ℤ (leg.end.z -ℤ leg.start.z)))

  same_reach : in_parts.reach ≡ quadric_reach node
  unfolding in_parts in_x in_y in_z quadric_reach
  same_reach =
      ap (λ (c : ℤ). ((axis_reach node.sx node.lx +ℤ axis_reach node.sy node.ly) +ℤ axis_reach node.sz node.lz) +ℤ c) (abs_product (pos 16777216) node.k)
      ∙ ring 7 (λ sx sy sz lx ly lz c.
      (((con (pos 1125899906842624) :* sx :+ con (pos 137438953472) :* lx) :+ (con (pos 1125899906842624) :* sy :+ con (pos 137438953472) :* ly)) :+ (con (pos 1125899906842624) :* sz :+ con (pos 137438953472) :* lz)) :+ con (pos 16777216) :* c
      := con (pos 1125899906842624) :* (sx :+ sy :+ sz) :+ con (pos 137438953472) :* (lx :+ ly :+ lz) :+ con (pos 16777216) :* c) refl
      (absℤ node.sx) (absℤ node.sy) (absℤ node.sz) (absℤ node.lx) (absℤ node.ly) (absℤ node.lz) (absℤ node.k)

  -- the quadric's form is the sum of the axes' forms and the constant
  pub form_in_parts : (m r : ℤ) →
      sum_of (sum_of (sum_of (axis_form leg.start.x leg.end.x node.px node.sx node.lx m r) (axis_form leg.start.y leg.end.y node.py node.sy node.ly m r))
      (axis_form leg.start.z leg.end.z node.pz node.sz node.lz m r)) (line_of (pos 16777216 *ℤ node.k) (pos 0)) ≡ quadric_form leg node m r
  unfolding quadric_form
  form_in_parts m r =
      let x : Form = form_x leg node m r in let y : Form = form_y leg node m r in let z : Form = form_z leg node m r in
      let xx : Form = square_of (form_x leg node m r) in let yy : Form = square_of (form_y leg node m r) in let zz : Form = square_of (form_z leg node m r) in
      same_form
      (ring 13 (λ sx sy sz lx ly lz x y z xx yy zz c.
      (((sx :* xx :+ con (pos 4096) :* lx :* x) :+ (sy :* yy :+ con (pos 4096) :* ly :* y)) :+ (sz :* zz :+ con (pos 4096) :* lz :* z)) :+ con (pos 16777216) :* c
      := sx :* xx :+ sy :* yy :+ sz :* zz :+ con (pos 4096) :* (lx :* x :+ ly :* y :+ lz :* z) :+ con (pos 16777216) :* c) refl
      node.sx node.sy node.sz node.lx node.ly node.lz x.u0 y.u0 z.u0 xx.u0 yy.u0 zz.u0 node.k)
      (ring 12 (λ sx sy sz lx ly lz x y z xx yy zz.
      (((sx :* xx :+ con (pos 4096) :* lx :* x) :+ (sy :* yy :+ con (pos 4096) :* ly :* y)) :+ (sz :* zz :+ con (pos 4096) :* lz :* z)) :+ con (pos 0)
      := sx :* xx :+ sy :* yy :+ sz :* zz :+ con (pos 4096) :* (lx :* x :+ ly :* y :+ lz :* z)) refl
      node.sx node.sy node.sz node.lx node.ly node.lz x.u1 y.u1 z.u1 xx.u1 yy.u1 zz.u1)
      (ring 12 (λ sx sy sz lx ly lz lx' ly' lz' xx yy zz.
      (((sx :* xx :+ lx' :* con (pos 0)) :+ (sy :* yy :+ ly' :* con (pos 0))) :+ (sz :* zz :+ lz' :* con (pos 0))) :+ con (pos 0)
      := sx :* xx :+ sy :* yy :+ sz :* zz :+ con (pos 4096) :* (lx :* con (pos 0) :+ ly :* con (pos 0) :+ lz :* con (pos 0))) refl
      (absℤ node.sx) (absℤ node.sy) (absℤ node.sz) (absℤ node.lx) (absℤ node.ly) (absℤ node.lz)
      (absℤ (pos 4096 *ℤ node.lx)) (absℤ (pos 4096 *ℤ node.ly)) (absℤ (pos 4096 *ℤ node.lz)) xx.u2 yy.u2 zz.u2)

  same_form_in_parts : (m r : ℤ) → in_parts.form m r ≡ quadric_form leg node m r
  unfolding in_parts in_x in_y in_z
  same_form_in_parts m r = form_in_parts m r

  parts_lawful : InRange node → Lawful in_parts
  unfolding in_parts in_x in_y in_z
  parts_lawful range =
      sum_lawful leg _ _
      (sum_lawful leg _ _
      (sum_lawful leg _ _
      (axis_lawful leg.start.x leg.end.x node.px node.sx node.lx (close_by (start_x_in leg) (end_x_in leg) range.px_in))
      (axis_lawful leg.start.y leg.end.y node.py node.sy node.ly (close_by (start_y_in leg) (end_y_in leg) range.py_in)))
      (axis_lawful leg.start.z leg.end.z node.pz node.sz node.lz (close_by (start_z_in leg) (end_z_in leg) (height_in range.pz_from range.pz_to))))
      (constant_lawful (pos 16777216 *ℤ node.k))

  pub quadric_lawful : InRange node → Lawful ((meanings leg).quadric node)
  quadric_lawful range = subst Lawful (same_meaning in_parts ((meanings leg).quadric node) same_value same_steepness same_reach same_form_in_parts) (parts_lawful range)
