use Rattle.std.proofs.Common.{◌≡◌, ◌++◌, map, drop, vec_items}
use Rattle.files.specs.Lines.{spaced_more}
use Rattle.files.proofs.line.push_more.Given as goal

-- what is written and what is left make the whole
abbrev pub invariant-loop-field : goal.invariant-loop-field
invariant-loop-field g l =
    vec_items l.out ++ spaced_more (map g.F.Field.text (drop l.field-index l.fields)) ≡ vec_items l.initial.out ++ spaced_more (map g.F.Field.text l.fields)
