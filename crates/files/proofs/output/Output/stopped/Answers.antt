use Rattle.std.proofs.Common.{ℕ, List, ◌++◌, refl, ap, ◌∙◌}
use Rattle.files.proofs.Telling.{told}
use Rattle.files.proofs.output.Output.stopped.Goals as goal

pub returns : goal.returns
returns c =
    told c.args.text.items c.args.error c.in_ok-fault.fault _ c.in_ok-fault.ensures
    (c.in_ok-extend_from_slice.ensures.items ∙ ap (λ (t : List ℕ). c.args.text.items ++ t) (c.as_bytes.ensures.value ∙ c.in_ok-lines.ensures.ok)) refl
