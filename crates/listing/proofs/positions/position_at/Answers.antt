use Rattle.std.proofs.Common.{ap, ◌∙◌}
use Rattle.integer.proofs.Machine.{fits, within, kept, is_stored}
use Rattle.listing.specs.Positions.{rounded}
use Rattle.listing.proofs.Scaling.{is_scaled}
use Rattle.listing.proofs.positions.position_at.Goals as goal

pub overflow_add-a : goal.overflow_add-a
overflow_add-a c = fits (is_scaled c.args.a c.args.b c.from.result c.args.piece c.requires.a_in c.requires.b_in c.from.ensures c.requires.piece_in) tt

pub rounded-requires : goal.rounded-requires
rounded-requires c = within (is_stored (is_scaled c.args.a c.args.b c.from.result c.args.piece c.requires.a_in c.requires.b_in c.from.ensures c.requires.piece_in) tt) tt

pub returns : goal.returns
returns c =
    let scaled = is_stored (is_scaled c.args.a c.args.b c.from.result c.args.piece c.requires.a_in c.requires.b_in c.from.ensures c.requires.piece_in) tt in
    kept c.rounded.type_inv ∙ c.rounded.ensures.value ∙ ap rounded scaled.same
