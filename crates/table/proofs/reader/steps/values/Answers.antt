use Rattle.std.proofs.Common.{◌≡◌, ℕ, ◌+◌, length, Some, sym, ap, ◌∙◌, rules, w64, to_z, of_z}
use Rattle.std.proofs.lemmas.List.{length_push}
use Rattle.std.proofs.lemmas.List.FromFn.{length-enumerate_from}
use Rattle.std.proofs.lemmas.Iterator.Consumers.{YieldsList-at, YieldsList-turn, YieldsList-end}
use Rattle.std.proofs.lemmas.Result.{err_from_is_err_and}
use Rattle.refusal.specs.declared.Refusal.TheVariants.{FieldValue}
use Rattle.table.specs.Text.{fields}
use Rattle.table.specs.Number.{number_of}
use Rattle.table.specs.Reading.{unless}
use Rattle.table.proofs.Values.{numbered, turn_at, was_some, was_none, read_more, read_bad, read_all}
use Rattle.table.proofs.reader.steps.values.Goals as goal

pub loop-place-preserved : goal.loop-place-preserved
loop-place-preserved c =
    let fs = fields c.args.line.now in
    let all = YieldsList-at c.into_iter-place-iterator.ensures.into_iter_gives (numbered c.enumerate-place-items.result c.of.result fs c.enumerate-place-items.ensures.source c.enumerate-place-items.ensures.count c.of.ensures.all) in
    let turn = turn_at fs (length c.loop-place.yielded) c.in-Some.place c.in-Some.field.now (YieldsList-turn all c.loop-place.yielded _ c.loop-place.yielded_by c.next.result c.next.new.self (c.in-Some.place, c.in-Some.field) c.in-Some.is c.next.ensures.steps) in
    let more = length_push c.loop-place.yielded (c.in-Some.place, c.in-Some.field) in
    let v = was_some c.number.result c.new-fault.result c.in_ok-found.field-0 (sym c.ok_or.ensures.value ∙ c.in_ok-found.was) in
    let is = ap number_of (sym turn.2) ∙ sym c.number.ensures.value ∙ v in
    let z : to_z w64 (of_z w64 c.in_ok-found.field-0) ≡ c.in_ok-found.field-0 = search rules in
    (search rules, tt, read_more (length c.loop-place.yielded) c.loop-place.found fs c.loop-place.invariant.2 _ c.in-Some.place c.in_ok-found.field-0 _ turn.0 c.requires more turn.1 is z)

pub returns-in_err-found : goal.returns-in_err-found
returns-in_err-found c =
    let fs = fields c.args.line.now in
    let all = YieldsList-at c.into_iter-place-iterator.ensures.into_iter_gives (numbered c.enumerate-place-items.result c.of.result fs c.enumerate-place-items.ensures.source c.enumerate-place-items.ensures.count c.of.ensures.all) in
    let turn = turn_at fs (length c.loop-place.yielded) c.in-Some.place c.in-Some.field.now (YieldsList-turn all c.loop-place.yielded _ c.loop-place.yielded_by c.next.result c.next.new.self (c.in-Some.place, c.in-Some.field) c.in-Some.is c.next.ensures.steps) in
    let none = was_none c.number.result c.new-fault.result c.in_err-found.field-0.0 (sym c.ok_or.ensures.value ∙ c.in_err-found.was) in
    let is = ap number_of (sym turn.2) ∙ sym c.number.ensures.value ∙ none.0 in
    let out = err_from_is_err_and c.from_residual.result c.from_residual.ensures.1 in
    let bad = read_bad (length c.loop-place.yielded) c.loop-place.found fs c.loop-place.invariant.2 turn.0 is ∙ ap (λ (k : ℕ). Some (k + 1)) (sym turn.1) in
    rw (out.1, out.2, none.1, c.new-fault.ensures) (ap (unless FieldValue c.args.line_number fs) bad)

pub returns : goal.returns
returns c =
    let fs = fields c.args.line.now in
    let all = YieldsList-at c.into_iter-place-iterator.ensures.into_iter_gives (numbered c.enumerate-place-items.result c.of.result fs c.enumerate-place-items.ensures.source c.enumerate-place-items.ensures.count c.of.ensures.all) in
    let end = YieldsList-end all c.loop-place.yielded _ c.loop-place.yielded_by c.next.result c.next.new.self c.in-None.is c.next.ensures.steps in
    let r = read_all (length c.loop-place.yielded) c.loop-place.found fs c.loop-place.invariant.2 (end.1 ∙ length-enumerate_from 0 fs) in
    (ap (unless FieldValue c.args.line_number fs) r.0, r.1)
