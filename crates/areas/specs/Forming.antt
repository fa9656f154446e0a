-- A list of nodes that no refusal fits is well-formed.
use Rattle.std.specs.Prelude.{◌≡◌, ℕ, zero, suc, ◌≤◌, Bool, true, false, T, cond, List, [], ◌∷◌, ◌++◌, length, take, ℤ, ◌≤ℤ◌, int_le, slice_index_or, refl}
use Rattle.std.proofs.Common.{sym, subst, take-suc}
use Rattle.std.proofs.Math.Nat.{suc-ne-zero, le_refl, le_of_lt}
use Rattle.std.proofs.Math.Seq.{take-length}
use Rattle.std.specs.Int.Signed.{le_z_yes}
use Rattle.nodes.specs.declared.node.Node.{Node}
use Rattle.nodes.specs.Tables.{shape_of}
use Rattle.nodes.specs.Formed.{WellFormed, no_node, reach_bound}
use Rattle.nodes.specs.Validation.{known, references, unused, in_range, new_reach, node_refusal}
use Rattle.nodes.proofs.Testing.{known_is, tests_keep}
use Rattle.nodes.proofs.Growing.{added_well_formed, empty_well_formed}
use Rattle.areas.specs.Table.{Accepted}

-- no refusal fits: every test passes
record Passes (a b c d e : Bool) : Type 0 where
  kind : a ≡ true
  refer : b ≡ true
  rest : c ≡ true
  range : d ≡ true
  reach : e ≡ true

passes : (a b c d e : Bool) → ◌≡◌ {A = ℕ} (cond a (cond b (cond c (cond d (cond e 0 11) 10) 9) 8) 7) 0 → Passes a b c d e
passes true true true true true z = record { kind = refl; refer = refl; rest = refl; range = refl; reach = refl }
passes true true true true false z = absurd (suc-ne-zero 10 z)
passes true true true false e z = absurd (suc-ne-zero 9 z)
passes true true false d e z = absurd (suc-ne-zero 8 z)
passes true false c d e z = absurd (suc-ne-zero 7 z)
passes false b c d e z = absurd (suc-ne-zero 6 z)

not_above : (x limit : ℤ) → int_le x limit ≡ true → x ≤ℤ limit
not_above x limit t = le_z_yes (subst T (sym t) tt)

-- one node more
accepted_more : (nodes : List Node) (node : Node) → WellFormed nodes → node_refusal nodes node ≡ 0 → WellFormed (nodes ++ (node ∷ []))
accepted_more nodes node formed none =
    let pass = passes (known node.kind) (references (length nodes) node (shape_of node)) (unused node (shape_of node)) (in_range node (shape_of node)) (int_le (new_reach nodes node) reach_bound) none in
    added_well_formed nodes node formed (known_is node.kind pass.kind) (tests_keep (length nodes) node (shape_of node) pass.refer pass.rest pass.range) (not_above (new_reach nodes node) reach_bound pass.reach)

first_well_formed : (nodes : List Node) → Accepted nodes → (n : ℕ) → n ≤ length nodes → WellFormed (take n nodes)
first_well_formed nodes accepted zero h = empty_well_formed
first_well_formed nodes accepted (suc n) h =
    subst WellFormed (sym (take-suc nodes n no_node h)) (accepted_more (take n nodes) (slice_index_or nodes n no_node) (first_well_formed nodes accepted n (le_of_lt h)) (accepted n h))

pub accepted_well_formed : (nodes : List Node) → Accepted nodes → WellFormed nodes
accepted_well_formed nodes accepted = subst WellFormed (take-length nodes) (first_well_formed nodes accepted (length nodes) (le_refl (length nodes)))
