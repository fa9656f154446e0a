-- A look through the slots, and what it says of those that use a node.
use Rattle.std.proofs.Common.{◌≡◌, ℕ, zero, suc, ◌+◌, ◌≤◌, false, List, [], ◌∷◌, Some, None, Option, arith}
use Rattle.std.proofs.lemmas.Bool.{or_parts, eqb-false}
use Rattle.areas.specs.declared.area.Area.{Area}
use Rattle.areas.specs.Table.{needed, AllStand, has, used}

-- where no area has node n, those that stand on the first n + 1 nodes stand on the first n
not_has : (n : ℕ) (slot : Option Area) → has n slot ≡ false → needed slot ≤ n + 1 → needed slot ≤ n
not_has n None e h = omega arith
not_has n (Some a) e h = let other = eqb-false a.node n e in omega arith

pub not_used : (n : ℕ) (slots : List (Option Area)) → used n slots ≡ false → AllStand (n + 1) slots → AllStand n slots
not_used n [] e all k = omega arith
not_used n (slot ∷ slots) e all zero = not_has n slot (or_parts (has n slot) (used n slots) e).0 (all 0)
not_used n (slot ∷ slots) e all (suc k) = not_used n slots (or_parts (has n slot) (used n slots) e).1 (λ j. all (suc j)) k
