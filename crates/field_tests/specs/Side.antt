-- A field with the straight border x = a: how far the leg is east of it, in scaled tenths of a mile.
use Rattle.std.specs.Prelude.{◌≡◌, ℕ, ℤ, pos, ◌+ℤ◌, ◌-ℤ◌, ◌*ℤ◌, neg_ℤ, ◌≤ℤ◌, refl}
use Rattle.std.proofs.Common.{sym, ap, ◌∙◌}
use Rattle.integer.specs.Numbers.{Within, absℤ}
use Rattle.integer.proofs.Ring.{ring, ◌:+◌, ◌:-◌, ◌:*◌, con, neg, ◌:=◌}
use Rattle.integer.proofs.Order.{≤ℤ_trans, natural≥0, gap, weaker, product≥1, product≥0, times≤}
use Rattle.integer.proofs.Absolute.{abs≥0, abs_product, abs_least, within_same, within_self, within_neg, within_sum, within_product, within_natural}
use Rattle.field.specs.Meaning.{Meaning, Laws}

-- q times the distance at p, q of a leg that goes from x1 to x2, for c = x1 − a and d = x2 − x1
abbrev pub ahead : (c d p q : ℤ) → ℤ
ahead c d p q = pos 4096 *ℤ c *ℤ q +ℤ d *ℤ p

abbrev pub side_of : ℤ → Meaning
side_of a = record {
  value = λ leg p q. ahead (leg.start.x -ℤ a) (leg.end.x -ℤ leg.start.x) p q *ℤ q;
  steepness = λ leg. absℤ (leg.end.x -ℤ leg.start.x);
  bound = λ leg m r. record { u0 = ahead (leg.start.x -ℤ a) (leg.end.x -ℤ leg.start.x) (pos m) (pos 1); u1 = (leg.end.x -ℤ leg.start.x) *ℤ pos r; u2 = pos 0 };
  reach = pos 33554432;
}

same_side : (c d p q p' q' : ℤ) → p *ℤ q' ≡ p' *ℤ q → ahead c d p q *ℤ q *ℤ (q' *ℤ q') ≡ ahead c d p' q' *ℤ q' *ℤ (q *ℤ q)
same_side c d p q p' q' e =
    ring 5 (λ c d p q q'. (con (pos 4096) :* c :* q :+ d :* p) :* q :* (q' :* q') := q :* q' :* (con (pos 4096) :* c :* q :* q' :+ d :* (p :* q'))) refl c d p q q'
    ∙ ap (λ (x : ℤ). q *ℤ q' *ℤ (pos 4096 *ℤ c *ℤ q *ℤ q' +ℤ d *ℤ x)) e
    ∙ ring 5 (λ c d p' q q'. q :* q' :* (con (pos 4096) :* c :* q :* q' :+ d :* (p' :* q)) := (con (pos 4096) :* c :* q' :+ d :* p') :* q' :* (q :* q)) refl c d p' q q'

-- a place is a mean of the ends, weighted by 4096 q − p and p
side_reach : (a x1 x2 p q : ℤ) → Within a (pos 4096) → Within x1 (pos 4096) → Within x2 (pos 4096) → pos 1 ≤ℤ q → pos 0 ≤ℤ p → p ≤ℤ (pos 4096 *ℤ q) → Within (ahead (x1 -ℤ a) (x2 -ℤ x1) p q *ℤ q) (pos 33554432 *ℤ (q *ℤ q))
side_reach a x1 x2 p q wa w1 w2 parts from to =
    within_same
    (within_product
    (within_sum (within_sum (within_product w1 (within_self (gap to))) (within_product w2 (within_self from))) (within_product (within_neg wa) (within_self (product≥0 (natural≥0 4096) (weaker parts)))))
    (within_self (weaker parts)))
    (ring 5 (λ a x1 x2 p q. (x1 :* (con (pos 4096) :* q :- p) :+ x2 :* p :+ neg a :* (con (pos 4096) :* q)) :* q := (con (pos 4096) :* (x1 :- a) :* q :+ (x2 :- x1) :* p) :* q) refl a x1 x2 p q)
    (ring 2 (λ p q. (con (pos 4096) :* (con (pos 4096) :* q :- p) :+ con (pos 4096) :* p :+ con (pos 4096) :* (con (pos 4096) :* q)) :* q := con (pos 33554432) :* (q :* q)) refl p q)

difference : (x1 x2 : ℤ) → Within x1 (pos 4096) → Within x2 (pos 4096) → (pos 2048 *ℤ absℤ (x2 -ℤ x1)) ≤ℤ pos 33554432
difference x1 x2 w1 w2 = ≤ℤ_trans (times≤ (natural≥0 2048) (abs_least (within_sum w2 (within_neg w1)))) (record { le = tt })

-- the ends lie |d| r from the value at the middle
side_low : (v d : ℤ) (r : ℕ) → Within (v -ℤ absℤ (d *ℤ pos r) -ℤ pos 0 -ℤ v *ℤ pos 1) (absℤ d *ℤ pos r)
side_low v d r =
    within_same (within_neg (within_self (product≥0 (abs≥0 d) (natural≥0 r))))
    (ap neg_ℤ (sym (abs_product d (pos r))) ∙ ring 2 (λ v w. neg w := v :- w :- con (pos 0) :- v :* con (pos 1)) refl v (absℤ (d *ℤ pos r))) refl

side_high : (v d : ℤ) (r : ℕ) → Within (v +ℤ absℤ (d *ℤ pos r) +ℤ pos 0 -ℤ v *ℤ pos 1) (absℤ d *ℤ pos r)
side_high v d r =
    within_same (within_self (product≥0 (abs≥0 d) (natural≥0 r)))
    (sym (abs_product d (pos r)) ∙ ring 2 (λ v w. w := v :+ w :+ con (pos 0) :- v :* con (pos 1)) refl v (absℤ (d *ℤ pos r))) refl

pub side_laws : (a : ℤ) → Within a (pos 4096) → Laws (side_of a)
side_laws a small = record {
  same_fraction = λ leg p q p' q' at at' same. same_side (leg.start.x -ℤ a) (leg.end.x -ℤ leg.start.x) p q p' q' same;
  in_reach = λ leg p q at. side_reach a leg.start.x leg.end.x p q small (within_natural leg.start.x 4096 leg.start_on_map.0) (within_natural leg.end.x 4096 leg.end_on_map.0) at.parts at.from at.to;
  steepness≥0 = λ leg. abs≥0 (leg.end.x -ℤ leg.start.x);
  steepness_in_reach = λ leg. difference leg.start.x leg.end.x (within_natural leg.start.x 4096 leg.start_on_map.0) (within_natural leg.end.x 4096 leg.end_on_map.0);
  reach_in_limit = record { le = tt };
  holds = λ leg m r piece p q on. record {
    bottom = product≥1 on.parts on.parts;
    close = within_same (within_self (record { le = tt }))
        (ring 6 (λ c d p q m r. con (pos 0) := r :* (q :* ((con (pos 4096) :* c :* q :+ d :* p) :* q) :- (con (pos 4096) :* c :* con (pos 1) :+ d :* m) :* q :* (q :* q)) :- d :* r :* (q :* q) :* (p :- m :* q)) refl
        (leg.start.x -ℤ a) (leg.end.x -ℤ leg.start.x) p q (pos m) (pos r))
        (ring 3 (λ r q d. con (pos 0) := con (pos 0) :* r :* q :* d) refl (pos r) q (q *ℤ q));
  };
  low_near = λ leg m r piece. side_low (ahead (leg.start.x -ℤ a) (leg.end.x -ℤ leg.start.x) (pos m) (pos 1)) (leg.end.x -ℤ leg.start.x) r;
  high_near = λ leg m r piece. side_high (ahead (leg.start.x -ℤ a) (leg.end.x -ℤ leg.start.x) (pos m) (pos 1)) (leg.end.x -ℤ leg.start.x) r;
}
