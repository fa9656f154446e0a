use Rattle.std.proofs.Common.{◌≡◌, ◌++◌, map, string_bytes}
use Rattle.std.specs.Iterator.Adapters.{zip_first, zip_second}
use Rattle.std.specs.Slice.Iter.{iter_rest}
use Rattle.sheet.specs.Answers.{replied}
use Rattle.dispatching.specs.Lines.{text_of}
use Rattle.dispatching.proofs.reporting.report.Given as goal

-- what is written and what is left make the whole
abbrev pub invariant-loop-call : goal.invariant-loop-call
invariant-loop-call l =
    string_bytes l.text ++ text_of (iter_rest (zip_first l.call-iterator)) (map replied (iter_rest (zip_second l.call-iterator)))
    ≡ text_of (iter_rest (zip_first l.initial.call-iterator)) (map replied (iter_rest (zip_second l.initial.call-iterator)))
