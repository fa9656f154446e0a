use Rattle.std.proofs.Common.{◌≡◌, Bool, true, ◌&&◌, ℤ, sym, ap₂, ◌∙◌, rules}
use Rattle.std.specs.List.{list_all}
use Rattle.std.proofs.lemmas.Iterator.{YieldsList}
use Rattle.std.proofs.lemmas.Iterator.Consumers.{fold_from_yields_List}
use borrow.Author.Tests.{tests}
use Rattle.terrain.specs.Rows.{in_range, refusal_by}
use Rattle.terrain.proofs.Folds.{fold_all}
use Rattle.terrain.proofs.rows.check.Goals as goal

pub returns-then-fold : goal.returns-then-fold
returns-then-fold g c hs gives =
    let list : YieldsList g.I.Iterator.next_gives (λ h. h) c.args.heights hs = record { runs = gives } in
    let all : c.fold.result ≡ list_all in_range hs =
    fold_from_yields_List _ (λ (good : Bool) (h : ℤ). good && in_range h) true c.fold.result c.fold.ensures.ran list (λ a x b q k. search (rules, tests)) ∙ fold_all in_range hs true in
    let sized : c.args.sized ≡ true = search (rules, tests) in
    ap₂ refusal_by sized (sym all ∙ c.if-fold.true)

pub returns-else-fold : goal.returns-else-fold
returns-else-fold g c hs gives =
    let list : YieldsList g.I.Iterator.next_gives (λ h. h) c.args.heights hs = record { runs = gives } in
    let all : c.fold.result ≡ list_all in_range hs =
    fold_from_yields_List _ (λ (good : Bool) (h : ℤ). good && in_range h) true c.fold.result c.fold.ensures.ran list (λ a x b q k. search (rules, tests)) ∙ fold_all in_range hs true in
    let sized : c.args.sized ≡ true = search (rules, tests) in
    sym (ap₂ refusal_by sized (sym all ∙ c.if-fold.false))
