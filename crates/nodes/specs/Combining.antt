-- Sum, lesser, greater and opposite of lawful meanings are lawful.
use Rattle.std.specs.Prelude.{◌≡◌, ℤ, pos, ◌+ℤ◌, ◌-ℤ◌, ◌*ℤ◌, neg_ℤ, ◌≤ℤ◌, refl}
use Rattle.std.proofs.Common.{sym, subst}
use Rattle.std.specs.Int.{int_min, int_max}
use Rattle.std.specs.Int.Signed.{≤ℤ_refl}
use Rattle.integer.specs.Numbers.{Within, absℤ}
use Rattle.integer.proofs.Ring.{ring, ◌:+◌, ◌:-◌, ◌:*◌, neg, con, ◌:=◌}
use Rattle.integer.proofs.Order.{≤ℤ_trans, natural≥0, weaker, gap, sum≥0, product≥0, by_gap}
use Rattle.integer.proofs.Absolute.{abs_neg, triangle, within_same, within_wider, within_neg, within_sum}
use Rattle.integer.proofs.Extremes.{min_first, min_second, min_greatest, min_has, max_first, max_second, max_has}
use Rattle.leg.specs.declared.shapes.Leg.{Leg}
use Rattle.leg.specs.Places.{OnLeg, OnPiece}
use Rattle.affine.specs.declared.Form.{Form}
use Rattle.affine.specs.Forms.{sum_of, opposite_of, lesser_of, greater_of, low_end, high_end}
use Rattle.affine.proofs.Holding.{holds_sum, holds_opposite, spread≥0}
use Rattle.affine.proofs.Choosing.{holds_lesser, holds_greater, lesser_ends, greater_ends}
use Rattle.nodes.specs.Numbers.{sum_over, opposite_over, lesser_over, greater_over}
use Rattle.nodes.specs.Lawful.{Span, Meaning, Lawful, Near, NearForm, meanings}

-- ---- the middle of a piece

pub middle_on_leg : (m r : ℤ) → Span m r → OnLeg m (pos 1)
middle_on_leg m r span = record {
  parts = record { le = tt };
  from = ≤ℤ_trans (weaker span.wide) span.from;
  to = by_gap _ _ _ (sum≥0 (gap span.to) (weaker span.wide)) (ring 2 (λ m r. (con (pos 4096) :- (m :+ r)) :+ r := con (pos 4096) :* con (pos 1) :- m) refl m r);
}

pub middle_on_piece : (m r : ℤ) → Span m r → OnPiece m r m (pos 1)
middle_on_piece m r span = record {
  wide = span.wide;
  parts = record { le = tt };
  from = by_gap _ _ _ (weaker span.wide) (ring 2 (λ m r. r := m :- (m :- r) :* con (pos 1)) refl m r);
  to = by_gap _ _ _ (weaker span.wide) (ring 2 (λ m r. r := (m :+ r) :* con (pos 1) :- m) refl m r);
}

-- q q is not negative at a place
square≥0 : {p q : ℤ} → OnLeg p q → pos 0 ≤ℤ (q *ℤ q)
square≥0 at = product≥0 (weaker at.parts) (weaker at.parts)

-- the third number of a lawful meaning's form
pub form_spread : (a : Meaning) → Lawful a → (m r : ℤ) → Span m r → pos 0 ≤ℤ (a.form m r).u2
form_spread a law m r span = spread≥0 m r m (pos 1) (middle_on_piece m r span) (a.form m r) _ _ (law.holds m r m (pos 1) (middle_on_piece m r span))

-- ---- how far the ends lie, over plain numbers

near_sum : (v v' d d' : ℤ) (u w : Form) → NearForm v d u → NearForm v' d' w → NearForm (v +ℤ v') (d +ℤ d') (sum_of u w)
near_sum v v' d d' u w h k = plain u.u0 (absℤ u.u1) u.u2 w.u0 (absℤ w.u1) w.u2 (absℤ (u.u1 +ℤ w.u1)) (triangle u.u1 w.u1) h k
  where
    plain : (a b c a' b' c' s : ℤ) → s ≤ℤ (b +ℤ b') → Near v d (a -ℤ b -ℤ c) (a +ℤ b +ℤ c) → Near v' d' (a' -ℤ b' -ℤ c') (a' +ℤ b' +ℤ c') →
        Near (v +ℤ v') (d +ℤ d') ((a +ℤ a') -ℤ s -ℤ (c +ℤ c')) ((a +ℤ a') +ℤ s +ℤ (c +ℤ c'))
    plain a b c a' b' c' s s≤ h k = record {
      low = by_gap _ _ _ (sum≥0 (sum≥0 (gap h.low) (gap k.low)) (gap s≤))
          (ring 11 (λ v v' d d' a b c a' b' c' s. ((a :- b :- c) :- (v :- d)) :+ ((a' :- b' :- c') :- (v' :- d')) :+ ((b :+ b') :- s)
          := ((a :+ a') :- s :- (c :+ c')) :- ((v :+ v') :- (d :+ d'))) refl v v' d d' a b c a' b' c' s);
      high = by_gap _ _ _ (sum≥0 (sum≥0 (gap h.high) (gap k.high)) (gap s≤))
          (ring 11 (λ v v' d d' a b c a' b' c' s. ((v :+ d) :- (a :+ b :+ c)) :+ ((v' :+ d') :- (a' :+ b' :+ c')) :+ ((b :+ b') :- s)
          := ((v :+ v') :+ (d :+ d')) :- ((a :+ a') :+ s :+ (c :+ c'))) refl v v' d d' a b c a' b' c' s);
    }

near_opposite : (v d : ℤ) (u : Form) → NearForm v d u → NearForm (neg_ℤ v) d (opposite_of u)
near_opposite v d u h = plain u.u0 (absℤ u.u1) u.u2 (absℤ (neg_ℤ u.u1)) (abs_neg u.u1) h
  where
    plain : (a b c s : ℤ) → s ≡ b → Near v d (a -ℤ b -ℤ c) (a +ℤ b +ℤ c) → Near (neg_ℤ v) d (neg_ℤ a -ℤ s -ℤ c) (neg_ℤ a +ℤ s +ℤ c)
    plain a b c s e h =
        subst (λ (s : ℤ). Near (neg_ℤ v) d (neg_ℤ a -ℤ s -ℤ c) (neg_ℤ a +ℤ s +ℤ c)) (sym e)
        (record {
          low = by_gap _ _ _ (gap h.high) (ring 5 (λ v d a b c. (v :+ d) :- (a :+ b :+ c) := (neg a :- b :- c) :- (neg v :- d)) refl v d a b c);
          high = by_gap _ _ _ (gap h.low) (ring 5 (λ v d a b c. (a :- b :- c) :- (v :- d) := (neg v :+ d) :- (neg a :+ b :+ c)) refl v d a b c);
        })

-- from an end that lies within d of v to one that may lie 1 further
lower : (v d e lo m n : ℤ) → (d +ℤ pos 1) ≤ℤ e → (v -ℤ d) ≤ℤ lo → m ≤ℤ v → lo ≤ℤ n → (m -ℤ e) ≤ℤ n
lower v d e lo m n more h m≤ ≤n =
    by_gap _ _ _ (sum≥0 (sum≥0 (sum≥0 (gap more) (gap h)) (sum≥0 (gap m≤) (gap ≤n))) (natural≥0 1))
    (ring 6 (λ v d e lo m n. ((e :- (d :+ con (pos 1))) :+ (lo :- (v :- d))) :+ ((v :- m) :+ (n :- lo)) :+ con (pos 1) := n :- (m :- e)) refl v d e lo m n)

higher : (v d e hi m n top : ℤ) → (d +ℤ pos 1) ≤ℤ e → hi ≤ℤ (v +ℤ d) → top ≤ℤ (m +ℤ pos 1) → m ≤ℤ hi → v ≤ℤ n → top ≤ℤ (n +ℤ e)
higher v d e hi m n top more h top≤ m≤ ≤n =
    by_gap _ _ _ (sum≥0 (sum≥0 (sum≥0 (gap more) (gap h)) (sum≥0 (gap top≤) (gap m≤))) (gap ≤n))
    (ring 7 (λ v d e hi m n top. ((e :- (d :+ con (pos 1))) :+ ((v :+ d) :- hi)) :+ (((m :+ con (pos 1)) :- top) :+ (hi :- m)) :+ (n :- v) := (n :+ e) :- top) refl v d e hi m n top)

-- the lesser and the greater: the low end is exact, the rounding of the centre costs the high end 1
module _ (v v' d d' e : ℤ) (more : (d +ℤ pos 1) ≤ℤ e) (more' : (d' +ℤ pos 1) ≤ℤ e) (lo hi lo' hi' low high : ℤ) (h : Near v d lo hi) (k : Near v' d' lo' hi') where
  near_min : low ≡ int_min lo lo' → high ≤ℤ (int_min hi hi' +ℤ pos 1) → Near (int_min v v') e low high
  near_min l t = record {
    low = subst (λ (x : ℤ). (int_min v v' -ℤ e) ≤ℤ x) (sym l)
        (min_greatest (lower v d e lo _ _ more h.low (min_first v v') (≤ℤ_refl lo)) (lower v' d' e lo' _ _ more' k.low (min_second v v') (≤ℤ_refl lo')));
    high = min_has v v' (λ (x : ℤ). high ≤ℤ (x +ℤ e))
        (higher v d e hi _ _ high more h.high t (min_first hi hi') (≤ℤ_refl v)) (higher v' d' e hi' _ _ high more' k.high t (min_second hi hi') (≤ℤ_refl v'));
  }

  near_max : low ≡ int_max lo lo' → high ≤ℤ (int_max hi hi' +ℤ pos 1) → Near (int_max v v') e low high
  near_max l t = record {
    low = subst (λ (x : ℤ). (int_max v v' -ℤ e) ≤ℤ x) (sym l)
        (max_has v v' (λ (x : ℤ). (x -ℤ e) ≤ℤ int_max lo lo')
        (lower v d e lo _ _ more h.low (≤ℤ_refl v) (max_first lo lo')) (lower v' d' e lo' _ _ more' k.low (≤ℤ_refl v') (max_second lo lo')));
    high = max_has hi hi' (λ (x : ℤ). high ≤ℤ (x +ℤ pos 1) → high ≤ℤ (int_max v v' +ℤ e))
        (λ s. higher v d e hi _ _ high more h.high s (≤ℤ_refl hi) (max_first v v')) (λ s. higher v' d' e hi' _ _ high more' k.high s (≤ℤ_refl hi') (max_second v v')) t;
  }

-- ---- the larger of two steepnesses plus 1, of two reaches plus 2048

-- L r + 1 ≤ (M + 1) r, where L ≤ M
one_more : (l m r : ℤ) → l ≤ℤ m → pos 1 ≤ℤ r → (l *ℤ r +ℤ pos 1) ≤ℤ ((m +ℤ pos 1) *ℤ r)
one_more l m r l≤m r≥1 =
    by_gap _ _ _ (sum≥0 (product≥0 (gap l≤m) (weaker r≥1)) (gap r≥1))
    (ring 3 (λ l m r. (m :- l) :* r :+ (r :- con (pos 1)) := (m :+ con (pos 1)) :* r :- (l :* r :+ con (pos 1))) refl l m r)

-- R Q ≤ (S + 2048) Q, where R ≤ S
further : (g s k : ℤ) → g ≤ℤ s → pos 0 ≤ℤ k → (g *ℤ k) ≤ℤ ((s +ℤ pos 2048) *ℤ k)
further g s k g≤s k≥0 =
    by_gap _ _ _ (product≥0 (sum≥0 (gap g≤s) (natural≥0 2048)) k≥0)
    (ring 3 (λ g s k. ((s :- g) :+ con (pos 2048)) :* k := (s :+ con (pos 2048)) :* k :- g :* k) refl g s k)

-- 2048 (M + 1) ≤ S + 2048, where 2048 M ≤ S
larger_in_reach : (l l' g g' : ℤ) → (pos 2048 *ℤ l) ≤ℤ g → (pos 2048 *ℤ l') ≤ℤ g' → (pos 2048 *ℤ (int_max l l' +ℤ pos 1)) ≤ℤ (int_max g g' +ℤ pos 2048)
larger_in_reach l l' g g' h k =
    max_has l l' (λ (x : ℤ). (pos 2048 *ℤ (x +ℤ pos 1)) ≤ℤ (int_max g g' +ℤ pos 2048))
    (plain l (int_max g g') (≤ℤ_trans h (max_first g g'))) (plain l' (int_max g g') (≤ℤ_trans k (max_second g g')))
  where
    plain : (l s : ℤ) → (pos 2048 *ℤ l) ≤ℤ s → (pos 2048 *ℤ (l +ℤ pos 1)) ≤ℤ (s +ℤ pos 2048)
    plain l s h = by_gap _ _ _ (gap h) (ring 2 (λ l s. s :- con (pos 2048) :* l := (s :+ con (pos 2048)) :- con (pos 2048) :* (l :+ con (pos 1))) refl l s)

larger≥0 : (l l' : ℤ) → pos 0 ≤ℤ l → pos 0 ≤ℤ (int_max l l' +ℤ pos 1)
larger≥0 l l' h = sum≥0 (≤ℤ_trans h (max_first l l')) (natural≥0 1)

-- ---- the four operations

module _ (leg : Leg) (a b : Meaning) (law : Lawful a) (law' : Lawful b) where
  pub sum_lawful : Lawful ((meanings leg).sum a b)
  sum_lawful = record {
    same_fraction = λ p q p' q' at at' same.
        sum_over (a.value p q) (b.value p q) (a.value p' q') (b.value p' q') (q *ℤ q) (q' *ℤ q') (law.same_fraction p q p' q' at at' same) (law'.same_fraction p q p' q' at at' same);
    in_reach = λ p q at.
        within_same (within_sum (law.in_reach p q at) (law'.in_reach p q at)) refl (ring 3 (λ g g' k. g :* k :+ g' :* k := (g :+ g') :* k) refl a.reach b.reach (q *ℤ q));
    steepness≥0 = sum≥0 law.steepness≥0 law'.steepness≥0;
    steepness_in_reach = by_gap _ _ _ (sum≥0 (gap law.steepness_in_reach) (gap law'.steepness_in_reach))
        (ring 4 (λ l l' g g'. (g :- con (pos 2048) :* l) :+ (g' :- con (pos 2048) :* l') := (g :+ g') :- con (pos 2048) :* (l :+ l')) refl a.steepness b.steepness a.reach b.reach);
    holds = λ m r p q at. holds_sum m r p q (a.form m r) (b.form m r) (a.value p q) (b.value p q) (q *ℤ q) (law.holds m r p q at) (law'.holds m r p q at);
    near = λ m r span.
        subst (λ (d : ℤ). NearForm (a.value m (pos 1) +ℤ b.value m (pos 1)) d (sum_of (a.form m r) (b.form m r)))
        (ring 3 (λ l l' r. l :* r :+ l' :* r := (l :+ l') :* r) refl a.steepness b.steepness r)
        (near_sum (a.value m (pos 1)) (b.value m (pos 1)) (a.steepness *ℤ r) (b.steepness *ℤ r) (a.form m r) (b.form m r) (law.near m r span) (law'.near m r span));
  }

  -- what the lesser and the greater share
  first_in_reach : (p q : ℤ) → OnLeg p q → Within (a.value p q) ((int_max a.reach b.reach +ℤ pos 2048) *ℤ (q *ℤ q))
  first_in_reach p q at = within_wider (law.in_reach p q at) (further a.reach _ (q *ℤ q) (max_first a.reach b.reach) (square≥0 at))

  second_in_reach : (p q : ℤ) → OnLeg p q → Within (b.value p q) ((int_max a.reach b.reach +ℤ pos 2048) *ℤ (q *ℤ q))
  second_in_reach p q at = within_wider (law'.in_reach p q at) (further b.reach _ (q *ℤ q) (max_second a.reach b.reach) (square≥0 at))

  first_near : (r : ℤ) → pos 1 ≤ℤ r → (a.steepness *ℤ r +ℤ pos 1) ≤ℤ ((int_max a.steepness b.steepness +ℤ pos 1) *ℤ r)
  first_near r wide = one_more a.steepness _ r (max_first a.steepness b.steepness) wide

  second_near : (r : ℤ) → pos 1 ≤ℤ r → (b.steepness *ℤ r +ℤ pos 1) ≤ℤ ((int_max a.steepness b.steepness +ℤ pos 1) *ℤ r)
  second_near r wide = one_more b.steepness _ r (max_second a.steepness b.steepness) wide

  pub lesser_lawful : Lawful ((meanings leg).lesser a b)
  lesser_lawful = record {
    same_fraction = λ p q p' q' at at' same.
        lesser_over (a.value p q) (b.value p q) (a.value p' q') (b.value p' q') (q *ℤ q) (q' *ℤ q') (square≥0 at) (square≥0 at')
        (law.same_fraction p q p' q' at at' same) (law'.same_fraction p q p' q' at at' same);
    in_reach = λ p q at. min_has (a.value p q) (b.value p q) (λ (x : ℤ). Within x ((int_max a.reach b.reach +ℤ pos 2048) *ℤ (q *ℤ q))) (first_in_reach p q at) (second_in_reach p q at);
    steepness≥0 = larger≥0 a.steepness b.steepness law.steepness≥0;
    steepness_in_reach = larger_in_reach a.steepness b.steepness a.reach b.reach law.steepness_in_reach law'.steepness_in_reach;
    holds = λ m r p q at. holds_lesser m r p q at (a.form m r) (b.form m r) (a.value p q) (b.value p q) (q *ℤ q) (law.holds m r p q at) (law'.holds m r p q at);
    near = λ m r span.
        let u = a.form m r in let v = b.form m r in
        let ends = lesser_ends u v (form_spread a law m r span) (form_spread b law' m r span) in
        near_min _ _ _ _ _ (first_near r span.wide) (second_near r span.wide) _ _ _ _ (low_end (lesser_of u v)) (high_end (lesser_of u v)) (law.near m r span) (law'.near m r span) ends.low ends.high;
  }

  pub greater_lawful : Lawful ((meanings leg).greater a b)
  greater_lawful = record {
    same_fraction = λ p q p' q' at at' same.
        greater_over (a.value p q) (b.value p q) (a.value p' q') (b.value p' q') (q *ℤ q) (q' *ℤ q') (square≥0 at) (square≥0 at')
        (law.same_fraction p q p' q' at at' same) (law'.same_fraction p q p' q' at at' same);
    in_reach = λ p q at. max_has (a.value p q) (b.value p q) (λ (x : ℤ). Within x ((int_max a.reach b.reach +ℤ pos 2048) *ℤ (q *ℤ q))) (first_in_reach p q at) (second_in_reach p q at);
    steepness≥0 = larger≥0 a.steepness b.steepness law.steepness≥0;
    steepness_in_reach = larger_in_reach a.steepness b.steepness a.reach b.reach law.steepness_in_reach law'.steepness_in_reach;
    holds = λ m r p q at. holds_greater m r p q at (a.form m r) (b.form m r) (a.value p q) (b.value p q) (q *ℤ q) (law.holds m r p q at) (law'.holds m r p q at);
    near = λ m r span.
        let u = a.form m r in let v = b.form m r in
        let ends = greater_ends u v (form_spread a law m r span) (form_spread b law' m r span) in
        near_max _ _ _ _ _ (first_near r span.wide) (second_near r span.wide) _ _ _ _ (low_end (greater_of u v)) (high_end (greater_of u v)) (law.near m r span) (law'.near m r span) ends.low ends.high;
  }

pub opposite_lawful : (leg : Leg) (a : Meaning) → Lawful a → Lawful ((meanings leg).opposite a)
opposite_lawful leg a law = record {
  same_fraction = λ p q p' q' at at' same. opposite_over (a.value p q) (a.value p' q') (q *ℤ q) (q' *ℤ q') (law.same_fraction p q p' q' at at' same);
  in_reach = λ p q at. within_neg (law.in_reach p q at);
  steepness≥0 = law.steepness≥0;
  steepness_in_reach = law.steepness_in_reach;
  holds = λ m r p q at. holds_opposite m r p q (a.form m r) (a.value p q) (q *ℤ q) (law.holds m r p q at);
  near = λ m r span. near_opposite (a.value m (pos 1)) (a.steepness *ℤ r) (a.form m r) (law.near m r span);
}
