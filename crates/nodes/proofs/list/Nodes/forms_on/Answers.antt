use Rattle.std.proofs.Common.{◌∙◌}
use Rattle.nodes.specs.AffineForms.{affine_result_is}
use Rattle.nodes.specs.Every.{every_node_is_lawful}
use Rattle.nodes.proofs.list.Nodes.forms_on.Goals as goal

pub returns : goal.returns
returns c =
    let nodes = c.args.self.now.all.now in let formed = c.args.self.now.formed in let leg = c.args.leg.now in
    record {
      value = λ i i<. c.evaluate.ensures.value i i< ∙ affine_result_is leg c.args.piece nodes formed i;
      laws = λ i i<. every_node_is_lawful nodes formed leg i i<;
    }
