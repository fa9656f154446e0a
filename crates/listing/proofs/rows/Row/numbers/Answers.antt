use Rattle.std.proofs.Common.{ℕ, [], ◌∷◌, ap, ◌∙◌, w64, SFits, rules, pos, get_or}
use Rattle.std.proofs.lemmas.Int.{to_z-of_z}
use Rattle.integer.proofs.Machine.{kept}
use Rattle.listing.proofs.rows.Row.numbers.Goals as goal

pub returns : goal.returns
returns c =
    let at = c.args.self.at in
    let p : SFits w64 c.args.self.piece = search rules in
    let x : SFits w64 (get_or at 0 (pos 0)) = search rules in
    let y : SFits w64 (get_or at 1 (pos 0)) = search rules in
    let z : SFits w64 (get_or at 2 (pos 0)) = search rules in
    let leg = kept c.from.type_inv ∙ c.from.ensures in
    let answer = kept c.from-2.type_inv ∙ c.from-2.ensures ∙ ap (λ (n : ℕ). pos n) c.number.ensures in
    let bounds = kept c.from-3.type_inv ∙ c.from-3.ensures in
    simp to_z-of_z (λ i. leg i ∷ answer i ∷ c.args.self.piece ∷ bounds i ∷ get_or at 0 (pos 0) ∷ get_or at 1 (pos 0) ∷ get_or at 2 (pos 0) ∷ [])
