use Rattle.std.proofs.Common.{length, get_or, pos}
use Rattle.affine.specs.Forms.{lesser_of}
use Rattle.nodes.specs.Meanings.{form_of, zero_form}
use Rattle.areas.specs.Fields.{start_form}
use Rattle.areas.specs.OverLaws.{at_most_16}
use Rattle.areas.proofs.Uniting.{united_known}
use Rattle.areas.proofs.Fitting.{forms_can}
use Rattle.areas.proofs.view_field.ViewField.bound.Goals as goal

pub unite-requires : goal.unite-requires
unite-requires c =
    let view = c.args.self.now in let piece = c.args.piece in
    forms_can view.nodes.all.now view.areas.now.slots view.nodes.few (at_most_16 view.sixteen) view.stands view.accepted
    c.args.leg.now piece.middle piece.half piece.made (λ i. get_or c.forms_on.result i zero_form) c.forms_on.ensures.value

pub returns : goal.returns
returns c =
    let view = c.args.self.now in let piece = c.args.piece in let nodes = c.args.self.now.nodes.all.now in
    united_known (length nodes) lesser_of (λ i. get_or c.forms_on.result i zero_form) (λ i. form_of c.args.leg.now nodes i (pos piece.middle) (pos piece.half))
    c.forms_on.ensures.value start_form view.areas.now.slots view.stands c.unite.ensures
