use Rattle.std.proofs.Common.{[], ◌∷◌, ◌++◌, List, get_or, take, sym, ap, ◌∙◌, subst, add-one, take_all, take-suc}
use Rattle.nodes.specs.declared.node.Node.{Node}
use Rattle.nodes.specs.Formed.{WellFormed, no_node}
use Rattle.nodes_tests.proofs.build.Goals as goal

pub loop-i-preserved : goal.loop-i-preserved
loop-i-preserved c =
    let nodes = c.args.nodes.now in
    let i = c.loop-i.i in
    subst WellFormed
    (ap (λ (l : List Node). l ++ (get_or nodes i no_node ∷ [])) c.new.ensures ∙ sym (take-suc nodes i no_node c.loop-i-test.true) ∙ ap (λ n. take n nodes) (sym (add-one i)))
    c.in_ok-validate.ensures.value.1

pub new-requires-2-clause-formed : goal.new-requires-2-clause-formed
new-requires-2-clause-formed c = subst WellFormed (take_all c.loop-i.i c.args.nodes.now c.loop-i-test.false) c.loop-i.invariant
