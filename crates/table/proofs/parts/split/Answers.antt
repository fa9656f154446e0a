use Rattle.std.proofs.Common.{ℕ, ◌+◌, List, ◌∷◌, take, sym, ap, ◌∙◌}
use Rattle.std.proofs.lemmas.List.{take_rest}
use Rattle.table.specs.Text.{fields}
use Rattle.table.proofs.Cuts.{cut_some, cut_none}
use Rattle.table.proofs.parts.split.Goals as goal

pub returns-in-Some : goal.returns-in-Some
returns-in-Some c =
    let line = c.args.line.now in
    let n = c.in-Some.n in
    cut_some 32 line n (sym c.find.ensures ∙ c.in-Some.is) ∙ ap (λ (r : List ℕ). take n line ∷ fields r) (sym (take_rest line (n + 1)))

pub returns-in-None : goal.returns-in-None
returns-in-None c = cut_none 32 c.args.line.now (sym c.find.ensures ∙ c.in-None.is)
