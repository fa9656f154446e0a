use Rattle.std.proofs.Common.{Bool, ◌&&◌, eqb, Some, Option, ℕ, sym, ap, ◌∙◌}
use Rattle.std.specs.Option.{option_eq}
use Rattle.table.specs.Text.{fields}
use Rattle.table.specs.Names.{position_of}
use Rattle.table.proofs.NextRows.{known_held}
use Rattle.table.proofs.reader.heads.is_good_name.Goals as goal

pub returns-then-contains : goal.returns-then-contains
returns-then-contains c =
    let here = option_eq eqb (position_of (fields c.args.line.now) c.args.field.now) (Some c.args.place) in
    c.eq.ensures ∙ ap (λ (o : Option ℕ). option_eq eqb o (Some c.args.place)) c.place_in.ensures
    ∙ sym (ap (λ (b : Bool). b && here) (known_held c.args.names.now c.args.field.now ∙ sym c.contains.ensures.value ∙ c.if-contains.true))

pub returns-else-contains : goal.returns-else-contains
returns-else-contains c =
    let here = option_eq eqb (position_of (fields c.args.line.now) c.args.field.now) (Some c.args.place) in
    c.if-contains.false ∙ sym (ap (λ (b : Bool). b && here) (known_held c.args.names.now c.args.field.now ∙ sym c.contains.ensures.value ∙ c.if-contains.false))
