-- What the layers mean: the union and the common part of two fields, and the outside of one. Inside is negative.
use Rattle.std.specs.Prelude.{ℤ, pos, ◌+ℤ◌, neg_ℤ, ◌≤ℤ◌}
use Rattle.std.specs.Int.{int_min, int_max}
use Rattle.affine.specs.declared.Form.{Form}
use Rattle.affine.specs.Forms.{lesser_of, greater_of, opposite_of}
use Rattle.field.specs.Meaning.{Meaning, reach_bound}

-- two fields joined: at each place what `pick` takes of the two values, and on each piece what `join` makes of the two bounds
abbrev pub joined : (ℤ → ℤ → ℤ) → (Form → Form → Form) → Meaning → Meaning → Meaning
joined pick join f g = record {
  value = λ leg p q. pick (f.value leg p q) (g.value leg p q);
  steepness = λ leg. int_max (f.steepness leg) (g.steepness leg) +ℤ pos 1;
  bound = λ leg m r. join (f.bound leg m r) (g.bound leg m r);
  reach = int_max f.reach g.reach +ℤ pos 2048;
}

-- inside either
abbrev pub union_of : Meaning → Meaning → Meaning
union_of f g = joined int_min lesser_of f g

-- inside both
abbrev pub common_of : Meaning → Meaning → Meaning
common_of f g = joined int_max greater_of f g

-- inside where the field is outside
abbrev pub outside_of : Meaning → Meaning
outside_of f = record {
  value = λ leg p q. neg_ℤ (f.value leg p q);
  steepness = λ leg. f.steepness leg;
  bound = λ leg m r. opposite_of (f.bound leg m r);
  reach = f.reach;
}

-- the reach is one that a field may have
abbrev pub InLimit : Meaning → Type 0
InLimit field = field.reach ≤ℤ reach_bound
