use Rattle.std.proofs.Common.{length, get_or, pos, ap, ◌∙◌}
use Rattle.std.specs.Int.{int_min}
use Rattle.integer.proofs.Machine.{kept}
use Rattle.affine.specs.declared.Form.{Form}
use Rattle.nodes.specs.Meanings.{value_of, zero_form}
use Rattle.areas.specs.OverLaws.{at_most_16}
use Rattle.areas.proofs.Uniting.{united_known}
use Rattle.areas.proofs.Fitting.{values_can}
use Rattle.areas.proofs.view_field.ViewField.value.Goals as goal

pub unite-requires : goal.unite-requires
unite-requires c =
    let view = c.args.self.now in
    values_can view.nodes.all.now view.areas.now.slots view.nodes.few (at_most_16 view.sixteen) view.stands view.accepted (λ i. (get_or c.values_at.result i zero_form).u0)

pub returns : goal.returns
returns c =
    let view = c.args.self.now in let nodes = c.args.self.now.nodes.all.now in
    kept c.unite.type_inv ∙ united_known (length nodes) int_min (λ i. (get_or c.values_at.result i zero_form).u0) (λ i. value_of c.args.leg.now nodes i (pos c.args.step.at) (pos 1))
    (λ k k<. ap (λ (u : Form). u.u0) (c.values_at.ensures k k<)) (pos 1152921504606846976) view.areas.now.slots view.stands c.unite.ensures
