use Rattle.std.proofs.Common.{length, get_or, pos, ◌+ℤ◌, ◌∙◌}
use Rattle.std.specs.Int.{int_max}
use Rattle.integer.proofs.Machine.{kept}
use Rattle.nodes.specs.Meanings.{steepness_of}
use Rattle.areas.specs.OverLaws.{at_most_16}
use Rattle.areas.proofs.Uniting.{united_known}
use Rattle.areas.proofs.Fitting.{steepnesses_can}
use Rattle.areas.proofs.view_field.ViewField.steepness.Goals as goal

pub unite-requires : goal.unite-requires
unite-requires c =
    let view = c.args.self.now in
    steepnesses_can view.nodes.all.now view.areas.now.slots view.nodes.few (at_most_16 view.sixteen) view.stands view.accepted c.args.leg.now (λ i. get_or c.steepnesses.result i (pos 0)) c.steepnesses.ensures

pub returns : goal.returns
returns c =
    let view = c.args.self.now in let nodes = c.args.self.now.nodes.all.now in
    kept c.unite.type_inv ∙ united_known (length nodes) (λ a b. int_max a b +ℤ pos 1) (λ i. get_or c.steepnesses.result i (pos 0)) (λ i. steepness_of c.args.leg.now nodes i)
    c.steepnesses.ensures (pos 0) view.areas.now.slots view.stands c.unite.ensures
