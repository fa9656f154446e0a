use Rattle.std.proofs.Common.{◌≡◌, ℕ, ◌+◌, min, List, [], length, get_or, refl, sym, ap, ◌∙◌, arith}
use Rattle.std.proofs.lemmas.List.{length-take-le}
use Rattle.table.specs.Text.{first_line}
use Rattle.table.specs.Names.{unpacked}
use Rattle.table.proofs.Cuts.{cut_none}
use Rattle.table.proofs.FirstLines.{within, first_is}
use Rattle.table.proofs.Runs.{at_start}
use Rattle.table.proofs.reader.Opened.rows.Goals as goal
use Rattle.table.proofs.reader.Opened.rows.Goals.{in-Some, in-None}

pub returns : goal.returns
returns c =
    let names = c.args.names in
    let text = names.text.now in
    let place : c.match-find.at ≡ min (length (first_line text) + 1) (length text) =
    elim c.match-find.branch [
      | in-Some w ↦ (let e = sym c.find.ensures ∙ w.in-Some.is in let h = within 0 0 text w.in-Some.n e in let f = ap length (first_is 0 0 text w.in-Some.n e) in let l = length-take-le w.in-Some.n text (omega arith) in let i = w.at-is in omega arith)
      | in-None w ↦ (let f = ap (λ (ls : List (List ℕ)). length (get_or ls 0 [])) (cut_none 10 text (sym c.find.ensures ∙ w.in-None.is)) in let i = w.at-is in omega arith)
    ] in
    record { text = refl; table = refl; order = refl; at = place; line = refl; whole = λ o d. at_start names.table text d.0 o d.1 (unpacked names.order.packed) c.match-find.at 1 d.2 place refl }
