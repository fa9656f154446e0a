use Rattle.std.proofs.Common.{rules, ◌≡◌, map, vec_items, sym, ap, ap₂, ◌∙◌, subst}
use Rattle.std.proofs.lemmas.Slice.Zip.{either_empty_from_Zip}
use Rattle.std.specs.Iterator.Adapters.{zip_first, zip_second}
use Rattle.std.specs.Slice.Iter.{iter_rest}
use Rattle.sheet.specs.Answers.{replied}
use Rattle.dispatching.specs.Lines.{text_of}
use Rattle.dispatching.specs.Filing.{OnlyClear}
use Rattle.dispatching.proofs.Filed.{only_clear}
use Rattle.dispatching.proofs.Written.{whole_at_end}
use Rattle.dispatching.proofs.reporting.report.Goals as goal

pub returns-clause-text : goal.returns-clause-text
returns-clause-text c =
    let first : iter_rest (zip_first c.into_iter-call-iterator.result) ≡ c.args.calls.now = cc in
    let second : iter_rest (zip_second c.into_iter-call-iterator.result) ≡ vec_items c.in_ok-transcript.transcript.replies = search rules in
    whole_at_end _ _ _ _ (either_empty_from_Zip c.loop-call.call-iterator c.next.new.self c.next.result c.in-None.is c.next.ensures.steps) c.loop-call.invariant
    ∙ ap₂ text_of first (ap (map replied) second ∙ c.in_ok-transcript.ensures.answered)

pub returns-clause-filed : goal.returns-clause-filed
returns-clause-filed c = subst (OnlyClear c.args.calls.now) (sym (returns-clause-text c)) (only_clear c.args.calls.now _ _ c.in_ok-transcript.ensures)
