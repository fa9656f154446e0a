-- The value over the areas is at most 2^60, and at most that of each area that is on.
use Rattle.std.proofs.Common.{◌≡◌, ℕ, zero, suc, Bool, true, false, cond, List, [], ◌∷◌, get_or, ℤ, pos, ◌*ℤ◌, ◌≤ℤ◌, Some, None, Option, sym, ap, ◌∙◌, subst, arith}
use borrow.Author.Differences.{ints}
use Rattle.std.specs.Int.{int_min}
use Rattle.integer.proofs.Order.{≤ℤ_trans}
use Rattle.integer.proofs.Extremes.{min_first, min_second}
use Rattle.leg.specs.declared.shapes.Leg.{Leg}
use Rattle.nodes.specs.declared.node.Node.{Node}
use Rattle.nodes.specs.Meanings.{value_of}
use Rattle.areas.specs.declared.area.Area.{Area}
use Rattle.areas.specs.Fields.{joined, united, least_value}

module _ (given : ℕ → ℤ) where
  same≤ : (x : ℤ) → x ≤ℤ x
  same≤ x = omega (arith, ints)

  on_under : (on : Bool) (x y : ℤ) → cond on (int_min x y) x ≤ℤ x
  on_under true x y = min_first x y
  on_under false x y = same≤ x

  -- a further slot makes nothing greater
  joined_under : (x : ℤ) (slot : Option Area) → joined int_min given x slot ≤ℤ x
  joined_under x None = same≤ x
  joined_under x (Some a) = on_under a.on x (given a.node)

  united_under : (x : ℤ) (slots : List (Option Area)) → united int_min given x slots ≤ℤ x
  united_under x [] = same≤ x
  united_under x (slot ∷ slots) = ≤ℤ_trans (united_under (joined int_min given x slot) slots) (joined_under x slot)

  area_under : (x : ℤ) (slot : Option Area) (a : Area) → slot ≡ Some a → a.on ≡ true → joined int_min given x slot ≤ℤ given a.node
  area_under x slot a is on =
      subst (λ (z : ℤ). z ≤ℤ given a.node) (sym (ap (joined int_min given x) is ∙ ap (λ (b : Bool). cond b (int_min x (given a.node)) x) on)) (min_second x (given a.node))

  slot_under : (x : ℤ) (slots : List (Option Area)) (k : ℕ) (a : Area) → get_or slots k None ≡ Some a → a.on ≡ true → united int_min given x slots ≤ℤ given a.node
  slot_under x [] k a is on = absurd (none_some is)
    where
      none_some : ◌≡◌ {A = Option Area} None (Some a) → ⊥
      none_some e = let z : ◌≡◌ {A = ℕ} 0 1 = cc in omega arith
  slot_under x (slot ∷ slots) zero a is on = ≤ℤ_trans (united_under (joined int_min given x slot) slots) (area_under x slot a is on)
  slot_under x (slot ∷ slots) (suc k) a is on = slot_under (joined int_min given x slot) slots k a is on

module _ (nodes : List Node) (slots : List (Option Area)) (leg : Leg) (p q : ℤ) where
  pub least_start : least_value nodes slots leg p q ≤ℤ (pos 1152921504606846976 *ℤ (q *ℤ q))
  least_start = united_under (λ i. value_of leg nodes i p q) (pos 1152921504606846976 *ℤ (q *ℤ q)) slots

  pub least_under : (k : ℕ) (a : Area) → get_or slots k None ≡ Some a → a.on ≡ true → least_value nodes slots leg p q ≤ℤ value_of leg nodes a.node p q
  least_under k a is on = slot_under (λ i. value_of leg nodes i p q) (pos 1152921504606846976 *ℤ (q *ℤ q)) slots k a is on
