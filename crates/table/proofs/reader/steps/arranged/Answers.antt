use Rattle.std.proofs.Common.{ℕ, ℤ, cond, ltb, get_or, pos, rules}
use borrow.Author.Tests.{tests}
use Rattle.table.proofs.Arrays.{made_by}
use Rattle.table.proofs.Fills.{filled_by}
use Rattle.table.proofs.reader.steps.arranged.Goals as goal

pub returns : goal.returns
returns c =
    let at : ℕ → ℤ = λ place. get_or c.args.found.now place (pos 0) in
    filled_by at c.args.places.now c.args.columns c.from_fn.result c.requires c.told-places
    (made_by _ _ (λ k. cond (ltb k c.args.columns) (at (get_or c.args.places.now k 0)) (pos 0)) (λ k y q h. search (rules, tests)) c.from_fn.result 13 (pos 0) c.from_fn.ensures.items)
