use Rattle.std.proofs.Common.{length, get_or, pos, ◌+ℤ◌, ◌∙◌}
use Rattle.std.specs.Int.{int_max}
use Rattle.integer.proofs.Machine.{kept}
use Rattle.nodes.specs.Meanings.{reach_of}
use Rattle.areas.specs.OverLaws.{at_most_16}
use Rattle.areas.proofs.Uniting.{united_known}
use Rattle.areas.proofs.Fitting.{reaches_can}
use Rattle.areas.proofs.view_field.ViewField.reach.Goals as goal

pub unite-requires : goal.unite-requires
unite-requires c =
    let view = c.args.self.now in
    reaches_can view.nodes.all.now view.areas.now.slots view.nodes.few (at_most_16 view.sixteen) view.stands view.accepted (λ i. get_or c.reaches.result i (pos 0)) c.reaches.ensures

pub returns : goal.returns
returns c =
    let view = c.args.self.now in let nodes = c.args.self.now.nodes.all.now in
    kept c.unite.type_inv ∙ united_known (length nodes) (λ a b. int_max a b +ℤ pos 2048) (λ i. get_or c.reaches.result i (pos 0)) (λ i. reach_of nodes i)
    c.reaches.ensures (pos 1152921504606846976) view.areas.now.slots view.stands c.unite.ensures
