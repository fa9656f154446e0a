-- What the nodes of a table mean on a leg: value, steepness, reach and form, each by an algebra of its own.
use Rattle.std.specs.Prelude.{ℕ, List, ℤ, pos, ◌+ℤ◌, neg_ℤ}
use Rattle.std.specs.Int.{int_min, int_max}
use Rattle.leg.specs.declared.shapes.Leg.{Leg}
use Rattle.affine.specs.declared.Form.{Form}
use Rattle.affine.specs.Forms.{sum_of, opposite_of, lesser_of, greater_of}
use Rattle.nodes.specs.declared.node.Node.{Node}
use Rattle.nodes.specs.Tables.{Algebra, result_of}
use Rattle.nodes.specs.Quadrics.{quadric_value, quadric_steepness, quadric_reach, quadric_form}

-- ---- F(p, q), which is q² times the value at the place p, q

abbrev pub Value : Type 0
Value = (p q : ℤ) → ℤ

abbrev pub values : Leg → Algebra Value
values leg = record {
  quadric = λ (node : Node) (p q : ℤ). quadric_value leg node p q;
  sum = λ (F G : Value) (p q : ℤ). F p q +ℤ G p q;
  lesser = λ (F G : Value) (p q : ℤ). int_min (F p q) (G p q);
  greater = λ (F G : Value) (p q : ℤ). int_max (F p q) (G p q);
  opposite = λ (F : Value) (p q : ℤ). neg_ℤ (F p q);
  unknown = λ (p q : ℤ). pos 0;
}

abbrev pub value_of : Leg → List Node → ℕ → Value
value_of leg nodes i = result_of (values leg) nodes i

-- ---- steepness and reach: they add in a sum; a union or a common part has the larger and a margin; an outside has its node's

abbrev pub extents : (Node → ℤ) → ℤ → Algebra ℤ
extents quadric margin = record {
  quadric = quadric;
  sum = λ (a b : ℤ). a +ℤ b;
  lesser = λ (a b : ℤ). int_max a b +ℤ margin;
  greater = λ (a b : ℤ). int_max a b +ℤ margin;
  opposite = λ (a : ℤ). a;
  unknown = pos 0;
}

abbrev pub steepness_margin : ℤ
steepness_margin = pos 1

abbrev pub reach_margin : ℤ
reach_margin = pos 2048

abbrev pub steepnesses : Leg → Algebra ℤ
steepnesses leg = extents (λ (node : Node). quadric_steepness leg node) steepness_margin

abbrev pub reaches : Algebra ℤ
reaches = extents (λ (node : Node). quadric_reach node) reach_margin

abbrev pub steepness_of : Leg → List Node → ℕ → ℤ
steepness_of leg nodes i = result_of (steepnesses leg) nodes i

abbrev pub reach_of : List Node → ℕ → ℤ
reach_of nodes i = result_of reaches nodes i

-- ---- the form on the piece of middle m and half-width r

abbrev pub zero_form : Form
zero_form = record { u0 = pos 0; u1 = pos 0; u2 = pos 0 }

abbrev pub forms : Leg → (m r : ℤ) → Algebra Form
forms leg m r = record {
  quadric = λ (node : Node). quadric_form leg node m r;
  sum = λ (u v : Form). sum_of u v;
  lesser = λ (u v : Form). lesser_of u v;
  greater = λ (u v : Form). greater_of u v;
  opposite = λ (u : Form). opposite_of u;
  unknown = zero_form;
}

abbrev pub form_of : Leg → List Node → ℕ → (m r : ℤ) → Form
form_of leg nodes i m r = result_of (forms leg m r) nodes i
