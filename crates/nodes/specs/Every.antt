-- Every node of a well-formed list is lawful, on every leg.
use Rattle.std.specs.Prelude.{◌≡◌, ℕ, ◌<◌, List, length, ℤ, pos, ◌+ℤ◌, ◌-ℤ◌, ◌*ℤ◌, ◌≤ℤ◌}
use Rattle.std.proofs.Math.Path.{refl}
use Rattle.std.proofs.Common.{sym, subst}
use Rattle.std.specs.Int.{int_max}
use Rattle.integer.specs.Numbers.{Within}
use Rattle.integer.proofs.Ring.{ring, ◌:+◌, ◌:-◌, ◌:*◌, con, ◌:=◌}
use Rattle.integer.proofs.Order.{≤ℤ_trans, natural≥0, gap, ≥0_same, sum≥0, product≥0, by_gap, by_multiple}
use Rattle.integer.proofs.Absolute.{abs≥0, within_from, within_same, within_sum, within_wider}
use Rattle.integer.proofs.Extremes.{max_first}
use Rattle.leg.specs.declared.shapes.Leg.{Leg}
use Rattle.leg.specs.Ranges.{IsPiece}
use Rattle.leg.proofs.Shaping.{piece_span}
use Rattle.affine.specs.declared.Form.{Form}
use Rattle.affine.specs.Forms.{low_end, high_end}
use Rattle.affine.specs.Fits.{EndsWithin}
use Rattle.affine.proofs.Ends.{low≤high}
use Rattle.nodes.specs.declared.node.Node.{Node}
use Rattle.nodes.specs.Tables.{result_of}
use Rattle.nodes.specs.Quadrics.{quadric_reach}
use Rattle.nodes.specs.Meanings.{Value, values, steepnesses, reaches, forms, value_of, steepness_of, reach_of, form_of}
use Rattle.nodes.specs.Formed.{WellFormed, reach_bound}
use Rattle.nodes.specs.Laws.{Laws, EveryNodeIsLawful}
use Rattle.nodes.specs.TablesLemmas.{related_results, mapped_results}
use Rattle.nodes.specs.Numbers.{natural≤}
use Rattle.nodes.specs.Lawful.{Span, Meaning, Lawful, Near, meanings}
use Rattle.nodes.specs.Combining.{middle_on_leg, form_spread, sum_lawful, lesser_lawful, greater_lawful, opposite_lawful}
use Rattle.nodes.specs.QuadricsLemmas.{quadric_lawful}

pub piece_spans : (m r : ℕ) → IsPiece m r → Span (pos m) (pos r)
piece_spans m r piece =
    let span = piece_span m r piece in
    record { wide = natural≤ piece.0; from = natural≤ span.0; to = natural≤ span.1 }

-- over plain numbers: the ends are in order, and each lies on its side within d
low_within : (v d lo hi : ℤ) → lo ≤ℤ hi → Near v d lo hi → Within (lo -ℤ v) d
low_within v d lo hi h n =
    within_from (lo -ℤ v) d
    (≥0_same (gap (≤ℤ_trans h n.high)) (ring 3 (λ v d lo. (v :+ d) :- lo := d :- (lo :- v)) refl v d lo))
    (≥0_same (gap n.low) (ring 3 (λ v d lo. lo :- (v :- d) := d :+ (lo :- v)) refl v d lo))

high_within : (v d lo hi : ℤ) → lo ≤ℤ hi → Near v d lo hi → Within (hi -ℤ v) d
high_within v d lo hi h n =
    within_from (hi -ℤ v) d
    (≥0_same (gap n.high) (ring 3 (λ v d hi. (v :+ d) :- hi := d :- (hi :- v)) refl v d hi))
    (≥0_same (gap (≤ℤ_trans n.low h)) (ring 3 (λ v d hi. hi :- (v :- d) := d :+ (hi :- v)) refl v d hi))

-- the value is within R, and d ≤ R
end_in_reach : (v d g e : ℤ) → Within v g → d ≤ℤ g → Within (e -ℤ v) d → Within e (g +ℤ g)
end_in_reach v d g e v-in d≤ e-in = within_same (within_sum v-in (within_wider e-in d≤)) (ring 2 (λ v e. v :+ (e :- v) := e) refl v e) refl

module _ (a : Meaning) (law : Lawful a) (m r : ℤ) (span : Span m r) where
  ordered : low_end (a.form m r) ≤ℤ high_end (a.form m r)
  ordered = low≤high (a.form m r) (form_spread a law m r span)

  pub low_near : Within (low_end (a.form m r) -ℤ a.value m (pos 1)) (a.steepness *ℤ r)
  low_near = low_within _ _ (low_end (a.form m r)) (high_end (a.form m r)) ordered (law.near m r span)

  pub high_near : Within (high_end (a.form m r) -ℤ a.value m (pos 1)) (a.steepness *ℤ r)
  high_near = high_within _ _ (low_end (a.form m r)) (high_end (a.form m r)) ordered (law.near m r span)

  -- L r ≤ 2048 L ≤ R
  move_in_reach : (a.steepness *ℤ r) ≤ℤ a.reach
  move_in_reach =
      by_gap _ _ _ (sum≥0 (product≥0 law.steepness≥0 (gap narrow)) (gap law.steepness_in_reach))
      (ring 3 (λ l r g. l :* (con (pos 2048) :- r) :+ (g :- con (pos 2048) :* l) := g :- l :* r) refl a.steepness r a.reach)
    where
      narrow : r ≤ℤ pos 2048
      narrow =
          by_multiple (pos 2) r (pos 2048) _ (record { le = tt }) (sum≥0 (gap span.from) (gap span.to))
          (ring 2 (λ m r. (m :- r) :+ (con (pos 4096) :- (m :+ r)) := con (pos 2) :* (con (pos 2048) :- r)) refl m r)

  middle_in_reach : Within (a.value m (pos 1)) a.reach
  middle_in_reach = within_same (law.in_reach m (pos 1) (middle_on_leg m r span)) refl (ring 1 (λ g. g :* (con (pos 1) :* con (pos 1)) := g) refl a.reach)

  -- so both ends are within 2^61 where the reach is within 2^60
  pub ends_within : a.reach ≤ℤ reach_bound → EndsWithin 2305843009213693952 (a.form m r)
  ends_within limit = record {
    spread = form_spread a law m r span;
    low = within_wider (end_in_reach (a.value m (pos 1)) _ a.reach _ middle_in_reach move_in_reach low_near) twice;
    high = within_wider (end_in_reach (a.value m (pos 1)) _ a.reach _ middle_in_reach move_in_reach high_near) twice;
  }
    where
      twice : (a.reach +ℤ a.reach) ≤ℤ pos 2305843009213693952
      twice =
          by_gap _ _ _ (sum≥0 (gap limit) (gap limit))
          (ring 1 (λ g. (con reach_bound :- g) :+ (con reach_bound :- g) := con (pos 2305843009213693952) :- (g :+ g)) refl a.reach)

-- ---- all nodes

module _ (nodes : List Node) (formed : WellFormed nodes) (leg : Leg) where
  pub meaning : ℕ → Meaning
  meaning i = result_of (meanings leg) nodes i

  pub node_lawful : (i : ℕ) → i < length nodes → Lawful (meaning i)
  unfolding meaning
  node_lawful =
      related_results nodes formed (meanings leg) (meanings leg) (λ (a b : Meaning). Lawful a)
      (record {
        quadric = λ node range. quadric_lawful leg node range;
        sum = λ a b _ _ h k. sum_lawful leg a b h k;
        lesser = λ a b _ _ h k. lesser_lawful leg a b h k;
        greater = λ a b _ _ h k. greater_lawful leg a b h k;
        opposite = λ a _ h. opposite_lawful leg a h;
      })

  -- ---- each of the four algebras gives its part of the meaning

  pub value_is : (i : ℕ) → i < length nodes → (meaning i).value ≡ value_of leg nodes i
  unfolding meaning
  value_is =
      mapped_results nodes formed (meanings leg) (values leg) (λ (a : Meaning). a.value)
      (record { quadric = λ node. refl; sum = λ a b. refl; lesser = λ a b. refl; greater = λ a b. refl; opposite = λ a. refl })

  pub steepness_is : (i : ℕ) → i < length nodes → (meaning i).steepness ≡ steepness_of leg nodes i
  unfolding meaning
  steepness_is =
      mapped_results nodes formed (meanings leg) (steepnesses leg) (λ (a : Meaning). a.steepness)
      (record { quadric = λ node. refl; sum = λ a b. refl; lesser = λ a b. refl; greater = λ a b. refl; opposite = λ a. refl })

  pub reach_is : (i : ℕ) → i < length nodes → (meaning i).reach ≡ reach_of nodes i
  unfolding meaning
  reach_is =
      mapped_results nodes formed (meanings leg) reaches (λ (a : Meaning). a.reach)
      (record { quadric = λ node. refl; sum = λ a b. refl; lesser = λ a b. refl; greater = λ a b. refl; opposite = λ a. refl })

  pub form_is : (i : ℕ) → i < length nodes → (m r : ℤ) → (meaning i).form m r ≡ form_of leg nodes i m r
  unfolding meaning
  form_is i i< m r =
      mapped_results nodes formed (meanings leg) (forms leg m r) (λ (a : Meaning). a.form m r)
      (record { quadric = λ node. refl; sum = λ a b. refl; lesser = λ a b. refl; greater = λ a b. refl; opposite = λ a. refl }) i i<

  pub within_reach_limit : (i : ℕ) → i < length nodes → (meaning i).reach ≤ℤ reach_bound
  within_reach_limit i i< = subst (λ (x : ℤ). x ≤ℤ reach_bound) (sym (reach_is i i<)) (formed.reached i i<)

-- the laws of a lawful meaning, over pieces
laws_of : (a : Meaning) → Lawful a → a.reach ≤ℤ reach_bound → Laws a.value a.steepness a.reach a.form
laws_of a law limit = record {
  same_fraction = law.same_fraction;
  in_reach = law.in_reach;
  steepness≥0 = law.steepness≥0;
  steepness_in_reach = law.steepness_in_reach;
  reach_in_limit = limit;
  holds = λ m r piece p q at. law.holds (pos m) (pos r) p q at;
  spread≥0 = λ m r piece. form_spread a law (pos m) (pos r) (piece_spans m r piece);
  low_near = λ m r piece. low_near a law (pos m) (pos r) (piece_spans m r piece);
  high_near = λ m r piece. high_near a law (pos m) (pos r) (piece_spans m r piece);
}

pub every_node_is_lawful : EveryNodeIsLawful
every_node_is_lawful nodes formed leg i i< =
    let a = meaning nodes formed leg i in
    let same : (F : Value) → (meaning nodes formed leg i).value ≡ F → (l : ℤ) → (meaning nodes formed leg i).steepness ≡ l → (g : ℤ) → (meaning nodes formed leg i).reach ≡ g →
    (u : (m r : ℤ) → Form) → ((m r : ℤ) → (meaning nodes formed leg i).form m r ≡ u m r) → Laws (meaning nodes formed leg i).value (meaning nodes formed leg i).steepness (meaning nodes formed leg i).reach (meaning nodes formed leg i).form ≡ Laws F l g u
    = λ F e l f g h u k j. Laws (e j) (f j) (h j) (λ m r. k m r j) in
    subst (λ (X : Type 0). X)
    (same _ (value_is nodes formed leg i i<) _ (steepness_is nodes formed leg i i<) _ (reach_is nodes formed leg i i<) _ (form_is nodes formed leg i i<))
    (laws_of a (node_lawful nodes formed leg i i<) (within_reach_limit nodes formed leg i i<))

-- ---- no steepness and no reach is too large

-- 0 ≤ 2048 L ≤ R
steepness≤ : (l g : ℤ) → pos 0 ≤ℤ l → (pos 2048 *ℤ l) ≤ℤ g → l ≤ℤ g
steepness≤ l g h k = by_gap _ _ _ (sum≥0 (gap k) (product≥0 (natural≥0 2047) h)) (ring 2 (λ l g. (g :- con (pos 2048) :* l) :+ con (pos 2047) :* l := g :- l) refl l g)

quadric_reach≥0 : (node : Node) → pos 0 ≤ℤ quadric_reach node
unfolding quadric_reach
quadric_reach≥0 node =
    sum≥0
    (sum≥0
    (product≥0 (natural≥0 1125899906842624) (sum≥0 (sum≥0 (abs≥0 node.sx) (abs≥0 node.sy)) (abs≥0 node.sz)))
    (product≥0 (natural≥0 137438953472) (sum≥0 (sum≥0 (abs≥0 node.lx) (abs≥0 node.ly)) (abs≥0 node.lz))))
    (product≥0 (natural≥0 16777216) (abs≥0 node.k))

widened≥0 : (a b : ℤ) → pos 0 ≤ℤ a → pos 0 ≤ℤ (int_max a b +ℤ pos 2048)
widened≥0 a b h = sum≥0 (≤ℤ_trans h (max_first a b)) (natural≥0 2048)

reach≥0 : (nodes : List Node) → WellFormed nodes → (i : ℕ) → i < length nodes → pos 0 ≤ℤ reach_of nodes i
reach≥0 nodes formed =
    related_results nodes formed reaches reaches (λ (a b : ℤ). pos 0 ≤ℤ a)
    (record {
      quadric = λ node _. quadric_reach≥0 node;
      sum = λ a b _ _ h k. sum≥0 h k;
      lesser = λ a b _ _ h _. widened≥0 a b h;
      greater = λ a b _ _ h _. widened≥0 a b h;
      opposite = λ a _ h. h;
    })

within_limit : (x : ℤ) → pos 0 ≤ℤ x → x ≤ℤ reach_bound → Within x (pos 1152921504606846976)
within_limit x h k = record { above = ≤ℤ_trans (record { le = tt }) h; below = k }

pub steepness_small : (nodes : List Node) → WellFormed nodes → (leg : Leg) (i : ℕ) → i < length nodes → Within (steepness_of leg nodes i) (pos 1152921504606846976)
steepness_small nodes formed leg i i< =
    let law = every_node_is_lawful nodes formed leg i i< in
    within_limit _ law.steepness≥0 (≤ℤ_trans (steepness≤ _ _ law.steepness≥0 law.steepness_in_reach) law.reach_in_limit)

pub reach_small : (nodes : List Node) → WellFormed nodes → (i : ℕ) → i < length nodes → Within (reach_of nodes i) (pos 1152921504606846976)
reach_small nodes formed i i< =
    within_limit _ (reach≥0 nodes formed i i<) (formed.reached i i<)
