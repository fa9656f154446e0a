use Rattle.std.proofs.Common.{◌≡◌, ◌+◌, None, drop, get_or, sym, ◌∙◌, rules}
use Rattle.std.proofs.lemmas.List.{at_drop_more}
use Rattle.table.specs.Number.{read_on, capped, followed}
use Rattle.table.proofs.Writings.{ends_there, read_is}
use Rattle.table.proofs.number.parsed.Goals as goal

pub returns-in_err-number : goal.returns-in_err-number
returns-in_err-number c =
    let ds = c.args.digits.now in
    let i = c.loop-digit.digit-index in
    let a = c.loop-digit.number in
    let none : None ≡ followed a (get_or ds i 0) = search rules in
    let stop : capped (read_on a (drop i ds)) ≡ None = at_drop_more (λ l. capped (read_on a l)) ds i 0 c.loop-digit-test.true ∙ ends_there a (get_or ds i 0) (drop (i + 1) ds) none in
    let whole = sym c.loop-digit.invariant.0 ∙ stop in
    c.from_residual.ensures ∙ sym whole ∙ read_is ds c.requires.first c.requires.few
