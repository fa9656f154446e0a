-- A field with one value everywhere.
use Rattle.std.specs.Prelude.{ℤ, pos, ◌-ℤ◌, ◌*ℤ◌, ◌≤ℤ◌, refl}
use Rattle.integer.specs.Numbers.{absℤ}
use Rattle.integer.proofs.Ring.{ring, ◌:+◌, ◌:-◌, ◌:*◌, con, ◌:=◌}
use Rattle.integer.proofs.Order.{weaker, product≥1, product≥0}
use Rattle.integer.proofs.Absolute.{abs≥0, within_abs, within_same, within_self, within_product}
use Rattle.integer.proofs.Bounding.{zero_within}
use Rattle.field.specs.Meaning.{Meaning, Laws, reach_bound}

abbrev pub level_meaning : ℤ → Meaning
level_meaning c = record {
  value = λ leg p q. c *ℤ (q *ℤ q);
  steepness = λ leg. pos 0;
  bound = λ leg m r. record { u0 = c; u1 = pos 0; u2 = pos 0 };
  reach = absℤ c;
}

pub level_laws : (c : ℤ) → absℤ c ≤ℤ reach_bound → Laws (level_meaning c)
level_laws c small = record {
  same_fraction = λ leg p q p' q' at at' same. ring 3 (λ c q q'. c :* (q :* q) :* (q' :* q') := c :* (q' :* q') :* (q :* q)) refl c q q';
  in_reach = λ leg p q at. within_product (within_abs c) (within_self (product≥0 (weaker at.parts) (weaker at.parts)));
  steepness≥0 = λ leg. record { le = tt };
  steepness_in_reach = λ leg. abs≥0 c;
  reach_in_limit = small;
  holds = λ leg m r piece p q on. record {
    bottom = product≥1 on.parts on.parts;
    close = within_same (within_self (record { le = tt }))
        (ring 5 (λ r q c t d. con (pos 0) := r :* (q :* (c :* d) :- c :* q :* d) :- con (pos 0) :* d :* t) refl (pos r) q c (p -ℤ pos m *ℤ q) (q *ℤ q))
        (ring 3 (λ r q d. con (pos 0) := con (pos 0) :* r :* q :* d) refl (pos r) q (q *ℤ q));
  };
  low_near = λ leg m r piece. within_same (zero_within (record { le = tt }))
      (ring 1 (λ c. con (pos 0) := c :- con (pos 0) :- con (pos 0) :- c :* con (pos 1)) refl c) (ring 1 (λ r. con (pos 0) := con (pos 0) :* r) refl (pos r));
  high_near = λ leg m r piece. within_same (zero_within (record { le = tt }))
      (ring 1 (λ c. con (pos 0) := c :+ con (pos 0) :+ con (pos 0) :- c :* con (pos 1)) refl c) (ring 1 (λ r. con (pos 0) := con (pos 0) :* r) refl (pos r));
}
