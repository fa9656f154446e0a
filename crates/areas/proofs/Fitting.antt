-- That each of the four answers can be joined area by area in 64 bits, by the laws of the field over the first areas.
use Rattle.std.proofs.Common.{◌≡◌, ℕ, ◌<◌, ◌≤◌, List, length, take, ℤ, pos, ◌+ℤ◌, ◌≤ℤ◌, Option, sym, refl, subst, arith, length-take}
use borrow.Author.Differences.{ints}
use Rattle.std.specs.Int.{int_min, int_max}
use Rattle.std.proofs.lemmas.Int.{clamps}
use Rattle.integer.specs.Numbers.{Within}
use Rattle.integer.proofs.Absolute.{under, over}
use Rattle.leg.specs.declared.shapes.Leg.{Leg}
use Rattle.leg.specs.Ranges.{IsPiece}
use Rattle.affine.specs.declared.Form.{Form}
use Rattle.affine.specs.Forms.{lesser_of}
use Rattle.affine.specs.Fits.{Fits, LesserFits}
use Rattle.field.specs.Meaning.{Laws, reach_bound}
use Rattle.field.proofs.Fitting.{steepness_in_limit, bounds_lesser_fit}
use Rattle.nodes.specs.declared.node.Node.{Node}
use Rattle.nodes.specs.Meanings.{steepness_of, reach_of, form_of}
use Rattle.nodes.specs.Formed.{WellFormed}
use Rattle.nodes.specs.Every.{steepness_small, reach_small}
use Rattle.areas.specs.declared.area.Area.{Area}
use Rattle.areas.specs.Table.{AllStand, Accepted}
use Rattle.areas.specs.Fields.{united, field_over, start_form}
use Rattle.areas.specs.Forming.{accepted_well_formed}
use Rattle.areas.specs.Parts.{node_field, node_laws}
use Rattle.areas.specs.OverLaws.{over_laws}
use Rattle.areas.specs.Uniting.{AllCanJoin}
use Rattle.areas.proofs.Uniting.{first_stand, all_can_join}

larger_fits : (a b : ℤ) (k : ℕ) → k ≤ 2048 → a ≤ℤ reach_bound → Within b (pos 1152921504606846976) → Fits (int_max a b +ℤ pos k)
larger_fits a b k h l w = let x = under w in let y = over w in omega (arith, ints, clamps)

module _ (nodes : List Node) (slots : List (Option Area)) (small : length nodes ≤ 64) (few : length slots ≤ 16) (stands : AllStand (length nodes) slots) (accepted : Accepted nodes) where
  formed : WellFormed nodes
  formed = accepted_well_formed nodes accepted

  first_laws : (i : ℕ) → Laws (field_over nodes (take i slots))
  first_laws i = over_laws nodes (take i slots) (omega (arith, length-take i slots)) (first_stand (length nodes) i slots stands) accepted

  pub values_can : (given : ℕ → ℤ) → AllCanJoin (λ _ k. k < 64) int_min given (pos 1152921504606846976) slots
  values_can given = all_can_join (length nodes) int_min given given (λ k k<. refl) (λ _ k. k < 64) (pos 1152921504606846976) slots stands (λ i k k<. omega arith)

  -- the larger and a margin, where no first areas have more than the greatest reach
  module _ (start : ℤ) (m : ℕ) (h : m ≤ 2048) (given known : ℕ → ℤ) (same : (k : ℕ) → k < length nodes → given k ≡ known k)
      (within : (k : ℕ) → k < length nodes → Within (known k) (pos 1152921504606846976)) (below : (i : ℕ) → united (λ a b. int_max a b +ℤ pos m) known start (take i slots) ≤ℤ reach_bound) where
    extents_can : AllCanJoin (λ a k. (k < 64) × Fits (int_max a (given k) +ℤ pos m)) (λ a b. int_max a b +ℤ pos m) given start slots
    extents_can =
        all_can_join (length nodes) (λ a b. int_max a b +ℤ pos m) given known same (λ a k. (k < 64) × Fits (int_max a (given k) +ℤ pos m)) start slots stands
        (λ i k k<.
        let a = united (λ a b. int_max a b +ℤ pos m) known start (take i slots) in
        (omega arith, subst (λ (x : ℤ). Fits (int_max a x +ℤ pos m)) (sym (same k k<)) (larger_fits a (known k) m h (below i) (within k k<))))

  pub steepnesses_can : (leg : Leg) (given : ℕ → ℤ) → ((k : ℕ) → k < length nodes → given k ≡ steepness_of leg nodes k) →
      AllCanJoin (λ a k. (k < 64) × Fits (int_max a (given k) +ℤ pos 1)) (λ a b. int_max a b +ℤ pos 1) given (pos 0) slots
  steepnesses_can leg given same =
      extents_can (pos 0) 1 (omega arith) given (λ k. steepness_of leg nodes k) same (λ k k<. steepness_small nodes formed leg k k<)
      (λ i. steepness_in_limit (field_over nodes (take i slots)) (first_laws i) leg)

  pub reaches_can : (given : ℕ → ℤ) → ((k : ℕ) → k < length nodes → given k ≡ reach_of nodes k) →
      AllCanJoin (λ a k. (k < 64) × Fits (int_max a (given k) +ℤ pos 2048)) (λ a b. int_max a b +ℤ pos 2048) given (pos 1152921504606846976) slots
  reaches_can given same =
      extents_can (pos 1152921504606846976) 2048 (omega arith) given (λ k. reach_of nodes k) same (λ k k<. reach_small nodes formed k k<) (λ i. (first_laws i).reach_in_limit)

  pub forms_can : (leg : Leg) (m r : ℕ) → IsPiece m r → (given : ℕ → Form) → ((k : ℕ) → k < length nodes → given k ≡ form_of leg nodes k (pos m) (pos r)) →
      AllCanJoin (λ u k. (k < 64) × LesserFits u (given k)) lesser_of given start_form slots
  forms_can leg m r piece given same =
      all_can_join (length nodes) lesser_of given (λ k. form_of leg nodes k (pos m) (pos r)) same (λ u k. (k < 64) × LesserFits u (given k)) start_form slots stands
      (λ i k k<. (omega arith, bounds_lesser_fit (field_over nodes (take i slots)) (node_field nodes k) (first_laws i) (node_laws nodes formed k k<) leg m r piece refl (same k k<)))
