-- What a node means on one leg, and the laws of it that every operation keeps.
use Rattle.std.specs.Prelude.{◌≡◌, ℤ, pos, ◌+ℤ◌, ◌-ℤ◌, ◌*ℤ◌, ◌≤ℤ◌}
use Rattle.integer.specs.Numbers.{Within}
use Rattle.leg.specs.declared.shapes.Leg.{Leg}
use Rattle.leg.specs.Places.{OnLeg, OnPiece}
use Rattle.affine.specs.declared.Form.{Form}
use Rattle.affine.specs.Forms.{low_end, high_end}
use Rattle.affine.specs.Holding.{Holds}
use Rattle.nodes.specs.declared.node.Node.{Node}
use Rattle.nodes.specs.Tables.{Algebra}
use Rattle.nodes.specs.Meanings.{Value, values, steepnesses, reaches, forms}

-- the piece of middle m and half-width r lies on the leg
pub record Span (m r : ℤ) : Type 0 where
  pub wide : pos 1 ≤ℤ r
  pub from : r ≤ℤ m
  pub to : (m +ℤ r) ≤ℤ pos 4096

pub record Meaning : Type 0 where
  pub value : Value
  pub steepness : ℤ
  pub reach : ℤ
  pub form : (m r : ℤ) → Form

-- both ends lie within d of v
pub record Near (v d lo hi : ℤ) : Type 0 where
  pub low : (v -ℤ d) ≤ℤ lo
  pub high : hi ≤ℤ (v +ℤ d)

abbrev pub NearForm : (v d : ℤ) → Form → Type 0
NearForm v d u = Near v d (low_end u) (high_end u)

pub record Lawful (a : Meaning) : Type 0 where
  pub same_fraction : (p q p' q' : ℤ) → OnLeg p q → OnLeg p' q' → p *ℤ q' ≡ p' *ℤ q → a.value p q *ℤ (q' *ℤ q') ≡ a.value p' q' *ℤ (q *ℤ q)
  pub in_reach : (p q : ℤ) → OnLeg p q → Within (a.value p q) (a.reach *ℤ (q *ℤ q))
  pub steepness≥0 : pos 0 ≤ℤ a.steepness
  pub steepness_in_reach : (pos 2048 *ℤ a.steepness) ≤ℤ a.reach
  pub holds : (m r p q : ℤ) → OnPiece m r p q → Holds m r p q (a.form m r) (a.value p q) (q *ℤ q)
  pub near : (m r : ℤ) → Span m r → NearForm (a.value m (pos 1)) (a.steepness *ℤ r) (a.form m r)

-- two meanings combined, given how each of the four answers is
abbrev pub both : Leg → ((A : Type 0) → Algebra A → A → A → A) → Meaning → Meaning → Meaning
both leg by a b = record {
  value = by Value (values leg) a.value b.value;
  steepness = by ℤ (steepnesses leg) a.steepness b.steepness;
  reach = by ℤ reaches a.reach b.reach;
  form = λ (m r : ℤ). by Form (forms leg m r) (a.form m r) (b.form m r);
}

-- the four algebras as one
abbrev pub meanings : Leg → Algebra Meaning
meanings leg = record {
  quadric = λ (node : Node). record { value = (values leg).quadric node; steepness = (steepnesses leg).quadric node; reach = reaches.quadric node; form = λ (m r : ℤ). (forms leg m r).quadric node };
  sum = λ (a b : Meaning). both leg (λ A al. al.sum) a b;
  lesser = λ (a b : Meaning). both leg (λ A al. al.lesser) a b;
  greater = λ (a b : Meaning). both leg (λ A al. al.greater) a b;
  opposite = λ (a : Meaning). both leg (λ A al x y. al.opposite x) a a;
  unknown = record { value = (values leg).unknown; steepness = pos 0; reach = pos 0; form = λ (m r : ℤ). (forms leg m r).unknown };
}
