-- The field over at most sixteen areas keeps the laws of a field.
use Rattle.std.specs.Prelude.{◌≡◌, ℕ, suc, ◌+◌, ◌*◌, ◌^◌, ◌<◌, ◌≤◌, Bool, true, false, cond, List, [], ◌∷◌, length, ℤ, pos, ◌+ℤ◌, ◌≤ℤ◌, Some, None, Option, refl}
use Rattle.std.proofs.Common.{ap, sym, subst, ◌∙◌, mul-suc}
use Rattle.std.proofs.Math.Nat.{le_refl, le_trans, le-add_right, lt_of_lt_of_le, add_assoc, add_comm, add-le-add, mul-le-mul_left}
use Rattle.std.proofs.Math.Dec.{leb→le}
use Rattle.std.proofs.Math.Numerals.{lt-add-one}
use Rattle.std.specs.Int.{int_min, int_max}
use Rattle.integer.proofs.Ring.{ring, ◌:+◌, ◌:-◌, con, ◌:=◌}
use Rattle.integer.proofs.Order.{≤ℤ_trans, gap, by_gap}
use Rattle.integer.proofs.Extremes.{max_least}
use Rattle.affine.specs.Forms.{lesser_of}
use Rattle.field.specs.Meaning.{Meaning, Laws, reach_bound}
use Rattle.field.specs.Layers.{union_of}
use Rattle.field.specs.Joining.{union_laws}
use Rattle.nodes.specs.declared.node.Node.{Node}
use Rattle.nodes.specs.Meanings.{reach_of}
use Rattle.nodes.specs.Formed.{WellFormed}
use Rattle.nodes.specs.Numbers.{natural≤}
use Rattle.areas.specs.declared.area.Area.{Area}
use Rattle.areas.specs.Table.{needed, AllStand, Accepted}
use Rattle.areas.specs.Fields.{joined, united, largest_reach, field_over}
use Rattle.areas.specs.Forming.{accepted_well_formed}
use Rattle.areas.specs.Parts.{start_field, start_laws, node_field, node_laws}

-- ---- the union of the areas' fields has the answers of the field over the areas

abbrev union_over : List Node → List (Option Area) → Meaning
union_over nodes slots = united union_of (node_field nodes) start_field slots

-- an answer of a field, and how it is joined in a union
module _ {X : Type 0} (answer : Meaning → X) (join : X → X → X) (of_union : (f g : Meaning) → answer (union_of f g) ≡ join (answer f) (answer g)) (nodes : List Node) where
  on_at : (on : Bool) (f g : Meaning) → answer (cond on (union_of f g) f) ≡ cond on (join (answer f) (answer g)) (answer f)
  on_at true f g = of_union f g
  on_at false f g = refl

  joined_at : (f : Meaning) (slot : Option Area) → answer (joined union_of (node_field nodes) f slot) ≡ joined join (λ i. answer (node_field nodes i)) (answer f) slot
  joined_at f None = refl
  joined_at f (Some a) = on_at a.on f (node_field nodes a.node)

  united_at : (f : Meaning) (slots : List (Option Area)) → answer (united union_of (node_field nodes) f slots) ≡ united join (λ i. answer (node_field nodes i)) (answer f) slots
  united_at f [] = refl
  united_at f (slot ∷ slots) =
      united_at (joined union_of (node_field nodes) f slot) slots ∙ ap (λ (x : X). united join (λ i. answer (node_field nodes i)) x slots) (joined_at f slot)

over_is_union : (nodes : List Node) (slots : List (Option Area)) → union_over nodes slots ≡ field_over nodes slots
over_is_union nodes slots = λ i. record {
  value = λ leg p q. united_at (λ f. f.value leg p q) int_min (λ f g. refl) nodes start_field slots i;
  steepness = λ leg. united_at (λ f. f.steepness leg) (λ a b. int_max a b +ℤ pos 1) (λ f g. refl) nodes start_field slots i;
  bound = λ leg m r. united_at (λ f. f.bound leg m r) lesser_of (λ f g. refl) nodes start_field slots i;
  reach = united_at (λ f. f.reach) (λ a b. int_max a b +ℤ pos 2048) (λ f g. refl) nodes start_field slots i;
}

-- ---- the laws of the union

-- the laws, and a reach of at most `most`
record Kept (most : ℕ) (field : Meaning) : Type 0 where
  laws : Laws field
  within : field.reach ≤ℤ pos most

larger_within : (x y : ℤ) (most : ℕ) → x ≤ℤ pos most → y ≤ℤ pos most → (int_max x y +ℤ pos 2048) ≤ℤ pos (most + 2048)
larger_within x y most h k =
    by_gap _ _ _ (gap (max_least h k)) (ring 2 (λ m x. m :- x := (m :+ con (pos 2048)) :- (x :+ con (pos 2048))) refl (pos most) (int_max x y))

lies_in_limit : (x : ℤ) (most : ℕ) → most ≤ 2 ^ 60 + 2 ^ 20 → x ≤ℤ pos most → x ≤ℤ reach_bound
lies_in_limit x most room h = ≤ℤ_trans h (natural≤ room)

kept_wider : (most more : ℕ) (f : Meaning) → most ≤ more → Kept most f → Kept more f
kept_wider most more f h kept = record { laws = kept.laws; within = ≤ℤ_trans kept.within (natural≤ h) }

module _ (nodes : List Node) (formed : WellFormed nodes) where
  node_within : (i : ℕ) → i < length nodes → (most : ℕ) → 2 ^ 60 ≤ most → reach_of nodes i ≤ℤ pos most
  node_within i i< most high = ≤ℤ_trans (formed.reached i i<) (natural≤ high)

  union_kept : (most : ℕ) (f : Meaning) (i : ℕ) → i < length nodes → 2 ^ 60 ≤ most → most + 2048 ≤ 2 ^ 60 + 2 ^ 20 → Kept most f → Kept (most + 2048) (union_of f (node_field nodes i))
  union_kept most f i i< high room kept =
      let within = larger_within f.reach (reach_of nodes i) most kept.within (node_within i i< most high) in
      record { laws = union_laws f (node_field nodes i) kept.laws (node_laws nodes formed i i<) (lies_in_limit _ (most + 2048) room within); within = within }

  on_kept : (most : ℕ) (f : Meaning) (on : Bool) (i : ℕ) → i < length nodes → 2 ^ 60 ≤ most → most + 2048 ≤ 2 ^ 60 + 2 ^ 20 → Kept most f → Kept (most + 2048) (cond on (union_of f (node_field nodes i)) f)
  on_kept most f true i i< high room kept = union_kept most f i i< high room kept
  on_kept most f false i i< high room kept = kept_wider most (most + 2048) f (le-add_right most 2048) kept

  joined_kept : (most : ℕ) (f : Meaning) (slot : Option Area) → needed slot ≤ length nodes → 2 ^ 60 ≤ most → most + 2048 ≤ 2 ^ 60 + 2 ^ 20 → Kept most f →
      Kept (most + 2048) (joined union_of (node_field nodes) f slot)
  joined_kept most f None stands high room kept = kept_wider most (most + 2048) f (le-add_right most 2048) kept
  joined_kept most f (Some a) stands high room kept = on_kept most f a.on a.node (lt_of_lt_of_le (lt-add-one a.node) stands) high room kept

  -- 2048 for one area more
  one_more : (most n : ℕ) → most + 2048 + 2048 * n ≡ most + 2048 * suc n
  one_more most n = add_assoc most 2048 (2048 * n) ∙ ap (λ (k : ℕ). most + k) (add_comm 2048 (2048 * n) ∙ sym (mul-suc 2048 n))

  united_kept : (most : ℕ) (slots : List (Option Area)) (f : Meaning) → AllStand (length nodes) slots → 2 ^ 60 ≤ most → most + 2048 * length slots ≤ 2 ^ 60 + 2 ^ 20 → Kept most f →
      Kept (most + 2048 * length slots) (united union_of (node_field nodes) f slots)
  united_kept most [] f stands high room kept = kept_wider most (most + 2048 * 0) f (le-add_right most (2048 * 0)) kept
  united_kept most (slot ∷ slots) f stands high room kept =
      let more = one_more most (length slots) in
      let left : most + 2048 + 2048 * length slots ≤ 2 ^ 60 + 2 ^ 20 = subst (λ (k : ℕ). k ≤ 2 ^ 60 + 2 ^ 20) (sym more) room in
      subst (λ (k : ℕ). Kept k (united union_of (node_field nodes) f (slot ∷ slots))) more
      (united_kept (most + 2048) slots (joined union_of (node_field nodes) f slot) (λ k. stands (suc k)) (le_trans high (le-add_right most 2048)) left
      (joined_kept most f slot (stands 0) high (le_trans (le-add_right (most + 2048) (2048 * length slots)) left) kept))

-- ---- of at most sixteen areas

pub at_most_16 : {n : ℕ} → n ≡ 16 → n ≤ 16
at_most_16 {n} e = subst (λ (k : ℕ). n ≤ k) e (le_refl n)

module _ (nodes : List Node) (slots : List (Option Area)) (few : length slots ≤ 16) (stands : AllStand (length nodes) slots) (accepted : Accepted nodes) where
  sum_within : 2 ^ 60 + 2048 * length slots ≤ 2 ^ 60 + 2 ^ 15
  sum_within = add-le-add (le_refl (2 ^ 60)) (mul-le-mul_left 2048 few)

  over_kept : Kept (2 ^ 60 + 2 ^ 15) (field_over nodes slots)
  over_kept =
      subst (Kept (2 ^ 60 + 2 ^ 15)) (over_is_union nodes slots)
      (kept_wider (2 ^ 60 + 2048 * length slots) (2 ^ 60 + 2 ^ 15) (union_over nodes slots) sum_within
      (united_kept nodes (accepted_well_formed nodes accepted) (2 ^ 60) slots start_field stands (le_refl (2 ^ 60)) (le_trans sum_within (leb→le (2 ^ 60 + 2 ^ 15) (2 ^ 60 + 2 ^ 20) tt)) (record { laws = start_laws; within = record { le = tt } })))

  pub over_laws : Laws (field_over nodes slots)
  over_laws = over_kept.laws

  -- 2048 for each area
  pub over_reach : largest_reach nodes slots ≤ℤ pos (2 ^ 60 + 2 ^ 15)
  over_reach = over_kept.within
