-- The two kinds of fields that are joined: the constant 2^60, and the field of one node.
use Rattle.std.specs.Prelude.{ℕ, ◌<◌, List, length, ℤ, pos, ◌-ℤ◌, ◌*ℤ◌, ◌≤ℤ◌, refl}
use Rattle.integer.specs.Numbers.{Within}
use Rattle.integer.proofs.Ring.{ring, ◌:-◌, ◌:*◌, con, ◌:=◌}
use Rattle.integer.proofs.Order.{≤ℤ_trans, natural≥0, weaker, product≥1, product≥0}
use Rattle.integer.proofs.Absolute.{within_same, within_self, within_wider, within_product}
use Rattle.leg.specs.declared.shapes.Leg.{Leg}
use Rattle.field.specs.Meaning.{Meaning, Laws, reach_bound}
use Rattle.nodes.specs.declared.node.Node.{Node}
use Rattle.nodes.specs.Meanings.{value_of, steepness_of, reach_of, form_of}
use Rattle.nodes.specs.Formed.{WellFormed}
use Rattle.nodes.specs.Laws.{NodeLaws}
use Rattle.nodes.specs.Every.{every_node_is_lawful}
use Rattle.areas.specs.Fields.{start_form}

-- the field that no area makes
abbrev pub start_field : Meaning
start_field = record {
  value = λ leg p q. pos 1152921504606846976 *ℤ (q *ℤ q);
  steepness = λ leg. pos 0;
  bound = λ leg m r. start_form;
  reach = pos 1152921504606846976;
}

none_within : (k : ℤ) → pos 0 ≤ℤ k → Within (pos 0) k
none_within k h = within_wider (within_self (natural≥0 0)) h

pub start_laws : Laws start_field
start_laws = record {
  same_fraction = λ leg p q p' q' at at' same. ring 2 (λ q q'. con (pos 1152921504606846976) :* (q :* q) :* (q' :* q') := con (pos 1152921504606846976) :* (q' :* q') :* (q :* q)) refl q q';
  in_reach = λ leg p q at. within_product (within_self (natural≥0 1152921504606846976)) (within_self (product≥0 (weaker at.parts) (weaker at.parts)));
  steepness≥0 = λ leg. record { le = tt };
  steepness_in_reach = λ leg. record { le = tt };
  reach_in_limit = record { le = tt };
  holds = λ leg m r piece p q on. record {
    bottom = product≥1 on.parts on.parts;
    close = within_same (within_self (record { le = tt }))
        (ring 4 (λ r q t d. con (pos 0) := r :* (q :* (con (pos 1152921504606846976) :* d) :- con (pos 1152921504606846976) :* q :* d) :- con (pos 0) :* d :* t) refl (pos r) q (p -ℤ pos m *ℤ q) (q *ℤ q))
        (ring 3 (λ r q d. con (pos 0) := con (pos 0) :* r :* q :* d) refl (pos r) q (q *ℤ q));
  };
  low_near = λ leg m r piece. within_same (none_within (pos 0) (record { le = tt })) refl (ring 1 (λ r. con (pos 0) := con (pos 0) :* r) refl (pos r));
  high_near = λ leg m r piece. within_same (none_within (pos 0) (record { le = tt })) refl (ring 1 (λ r. con (pos 0) := con (pos 0) :* r) refl (pos r));
}

-- the field of one node
abbrev pub node_field : List Node → ℕ → Meaning
node_field nodes i = record {
  value = λ leg p q. value_of leg nodes i p q;
  steepness = λ leg. steepness_of leg nodes i;
  bound = λ leg m r. form_of leg nodes i (pos m) (pos r);
  reach = reach_of nodes i;
}

module _ (nodes : List Node) (formed : WellFormed nodes) (i : ℕ) (i< : i < length nodes) where
  node_reach : reach_of nodes i ≤ℤ reach_bound
  node_reach = ≤ℤ_trans (formed.reached i i<) (record { le = tt })

  pub node_laws : Laws (node_field nodes i)
  node_laws =
      let every : (leg : Leg) → NodeLaws nodes leg i = λ leg. every_node_is_lawful nodes formed leg i i< in
      record {
        same_fraction = λ leg. (every leg).same_fraction;
        in_reach = λ leg. (every leg).in_reach;
        steepness≥0 = λ leg. (every leg).steepness≥0;
        steepness_in_reach = λ leg. (every leg).steepness_in_reach;
        reach_in_limit = node_reach;
        holds = λ leg. (every leg).holds;
        low_near = λ leg. (every leg).low_near;
        high_near = λ leg. (every leg).high_near;
      }
