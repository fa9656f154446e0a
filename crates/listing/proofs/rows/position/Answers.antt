use Rattle.std.proofs.Common.{[], ◌∷◌, ◌∙◌, w64, SFits, rules}
use Rattle.std.proofs.lemmas.Int.{to_z-of_z}
use Rattle.integer.proofs.Machine.{kept}
use Rattle.listing.specs.Rows.{column}
use Rattle.listing.proofs.rows.position.Goals as goal

pub returns : goal.returns
returns c =
    let row = c.args.row.now in
    let a : SFits w64 (column row 0) = search rules in let b : SFits w64 (column row 1) = search rules in let d : SFits w64 (column row 2) = search rules in
    let e : SFits w64 (column row 3) = search rules in let f : SFits w64 (column row 4) = search rules in let h : SFits w64 (column row 5) = search rules in
    let x = kept c.position_at.type_inv ∙ (simp to_z-of_z at c.position_at.ensures) in
    let y = kept c.position_at-2.type_inv ∙ (simp to_z-of_z at c.position_at-2.ensures) in
    let z = kept c.position_at-3.type_inv ∙ (simp to_z-of_z at c.position_at-3.ensures) in
    λ i. x i ∷ y i ∷ z i ∷ []
