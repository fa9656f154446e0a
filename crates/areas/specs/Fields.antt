-- The field of the areas that are on, over a list of nodes.
use Rattle.std.specs.Prelude.{ℕ, cond, List, ℤ, pos, ◌+ℤ◌, ◌*ℤ◌, Some, None, fold, Option}
use Rattle.std.specs.Int.{int_min, int_max}
use Rattle.leg.specs.declared.shapes.Leg.{Leg}
use Rattle.affine.specs.declared.Form.{Form}
use Rattle.affine.specs.Forms.{lesser_of}
use Rattle.field.specs.Meaning.{Meaning}
use Rattle.nodes.specs.declared.node.Node.{Node}
use Rattle.nodes.specs.Meanings.{value_of, steepness_of, reach_of, form_of}
use Rattle.areas.specs.declared.area.Area.{Area}

-- ---- one area after the other

-- one slot more: if its area is on, what its node gives is joined to what there is
abbrev pub joined : {X : Type 0} → (X → X → X) → (ℕ → X) → X → Option Area → X
joined join given so_far None = so_far
joined join given so_far (Some a) = cond a.on (join so_far (given a.node)) so_far

-- the areas are gone through in the order of their numbers
abbrev pub united : {X : Type 0} → (X → X → X) → (ℕ → X) → X → List (Option Area) → X
united join given start slots = fold (joined join given) start slots

-- ---- the four answers

-- F(p, q), which is q² times the value: the least of 2^60 and the values of the areas that are on
abbrev pub least_value : List Node → List (Option Area) → Leg → ℤ → ℤ → ℤ
least_value nodes slots leg p q = united int_min (λ i. value_of leg nodes i p q) (pos 1152921504606846976 *ℤ (q *ℤ q)) slots

-- the larger steepness and 1 more, for each area that is on
abbrev pub largest_steepness : List Node → List (Option Area) → Leg → ℤ
largest_steepness nodes slots leg = united (λ a b. int_max a b +ℤ pos 1) (λ i. steepness_of leg nodes i) (pos 0) slots

-- the larger reach and 2048 more, for each area that is on
abbrev pub largest_reach : List Node → List (Option Area) → ℤ
largest_reach nodes slots = united (λ a b. int_max a b +ℤ pos 2048) (λ i. reach_of nodes i) (pos 1152921504606846976) slots

abbrev pub start_form : Form
start_form = record { u0 = pos 1152921504606846976; u1 = pos 0; u2 = pos 0 }

-- the lesser of the form (2^60, 0, 0) and the forms of the areas that are on
abbrev pub least_form : List Node → List (Option Area) → Leg → ℕ → ℕ → Form
least_form nodes slots leg m r = united lesser_of (λ i. form_of leg nodes i (pos m) (pos r)) start_form slots

-- the field of the areas that are on
abbrev pub field_over : List Node → List (Option Area) → Meaning
field_over nodes slots = record {
  value = least_value nodes slots;
  steepness = largest_steepness nodes slots;
  bound = least_form nodes slots;
  reach = largest_reach nodes slots;
}
