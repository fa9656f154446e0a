use Rattle.std.proofs.Common.{length, get_or, ℤ, pos, sym, ◌∙◌, subst}
use Rattle.integer.specs.Numbers.{Within}
use Rattle.integer.proofs.Machine.{kept}
use Rattle.nodes.specs.Tables.{shape_of}
use Rattle.nodes.specs.Meanings.{reaches, reach_of}
use Rattle.nodes.specs.TablesLemmas.{same_look, names_earlier}
use Rattle.nodes.specs.Every.{reach_small}
use Rattle.nodes.proofs.ExtentCode.{ready}
use Rattle.nodes.proofs.list.Nodes.reach_after.Goals as goal

pub extent_of-requires : goal.extent_of-requires
extent_of-requires c =
    let nodes = c.args.self.now.all.now in let node = c.args.node.now in
    ready node c.reaches-done.result (length nodes) c.args.self.now.few
    (λ k k<. subst (λ (x : ℤ). Within x (pos 1152921504606846976)) (sym (c.reaches-done.ensures k k<)) (reach_small nodes c.args.self.now.formed k k<))
    (shape_of node) (names_earlier (length nodes) node c.requires) c.requires

pub returns : goal.returns
returns c =
    let nodes = c.args.self.now.all.now in let node = c.args.node.now in
    kept c.extent_of.type_inv ∙ c.extent_of.ensures
    ∙ same_look reaches (λ k. get_or c.reaches-done.result k (pos 0)) (reach_of nodes) (length nodes) c.reaches-done.ensures node (shape_of node) (names_earlier (length nodes) node c.requires)
