use Rattle.std.proofs.Common.{◌≡◌, false, length, ℤ, sym, ◌∙◌, subst}
use lib.Signed.{le_z, lt_z}
use Rattle.integer.proofs.Machine.{kept}
use Rattle.nodes.specs.Tables.{shape_of}
use Rattle.nodes.specs.Formed.{reach_bound}
use Rattle.nodes.specs.Validation.{known, references, unused, in_range, new_reach}
use Rattle.nodes.proofs.Growing.{added_well_formed}
use Rattle.nodes.proofs.Testing.{known_is, tests_keep, none_fits, not_above, not_above_test}
use Rattle.nodes.proofs.list.Nodes.validate.Goals as goal

pub reach_after-requires : goal.reach_after-requires
reach_after-requires c =
    let nodes = c.args.self.now.all.now in let node = c.args.node.now in
    tests_keep (length nodes) node (shape_of node) (sym c.if-not-refers_below.ensures) (sym c.if-not-rest_is_zero.ensures) (sym c.if-not-in_range.ensures)

pub returns-clause-value : goal.returns-clause-value
returns-clause-value c =
    let nodes = c.args.self.now.all.now in let node = c.args.node.now in
    let small : lt_z reach_bound (new_reach nodes node) ≡ false =
    subst (λ (x : ℤ). lt_z reach_bound x ≡ false) (kept c.reach_after.type_inv ∙ c.reach_after.ensures) c.if-reach_after-gt-REACH_LIMIT.false in (
      none_fits (known node.kind) (references (length nodes) node (shape_of node)) (unused node (shape_of node)) (in_range node (shape_of node)) (le_z (new_reach nodes node) reach_bound)
          c.if-not-known.ensures c.if-not-refers_below.ensures c.if-not-rest_is_zero.ensures c.if-not-in_range.ensures (not_above_test (new_reach nodes node) reach_bound small),
      added_well_formed nodes node c.args.self.now.formed (known_is node.kind (sym c.if-not-known.ensures))
          (tests_keep (length nodes) node (shape_of node) (sym c.if-not-refers_below.ensures) (sym c.if-not-rest_is_zero.ensures) (sym c.if-not-in_range.ensures))
          (not_above (new_reach nodes node) reach_bound small),
    )
