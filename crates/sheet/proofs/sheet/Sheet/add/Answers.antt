use Rattle.std.proofs.Common.{◌≡◌, ◌+◌, ◌≤◌, List, length, vec_items, sym, ap, ◌∙◌, subst, arith, length-append}
use Rattle.std.proofs.lemmas.Result.{err_from_is_err_and}
use Rattle.refusal.specs.Numbers.{number_of}
use Rattle.nodes.specs.declared.node.Node.{Node}
use Rattle.nodes.specs.Formed.{WellFormed}
use Rattle.nodes.specs.Validation.{node_refusal}
use Rattle.areas.specs.Table.{Accepted}
use Rattle.areas.specs.Forming.{accepted_well_formed}
use Rattle.sheet.specs.declared.call.Call.TheVariants.{Add}
use Rattle.sheet.specs.Held.{data_of}
use Rattle.sheet.proofs.Standings.{accepted_added}
use Rattle.sheet.specs.Answers.{taken}
use Rattle.sheet.proofs.Sent.{some_number, done_refused, after_refused, done_taken, after_taken, with_nodes, not_full}
use Rattle.sheet.proofs.sheet.Sheet.add.Goals as goal

pub new-requires : goal.new-requires
new-requires c =
    let sheet = c.args.self.now in
    record {
      few = subst (λ (l : List Node). length l ≤ 64) (sym c.deref.ensures.value) sheet.few;
      formed = subst WellFormed (sym c.deref.ensures.value) (accepted_well_formed (vec_items sheet.nodes) sheet.accepted);
    }

pub returns-in_err-validate : goal.returns-in_err-validate
returns-in_err-validate c =
    let p = err_from_is_err_and c.from_residual.result c.from_residual.ensures.1 in
    let sheet = c.args.self.now in
    let count = sheet.nodes.ok.0 in
    let refusal = c.in_err-validate.field-0.0 in
    let fits : number_of refusal ≡ node_refusal (vec_items sheet.nodes) c.args.node =
    c.in_err-validate.ensures.value ∙ ap (λ (l : List Node). node_refusal l c.args.node) (c.new.ensures ∙ c.deref.ensures.value) in
    let first = fits ∙ not_full (length (vec_items sheet.nodes)) _ (omega arith) in
    rw (p.1, p.2) (record {
      answer = done_refused (data_of sheet) (Add c.args.node) (number_of refusal) (some_number refusal) first;
      after = after_refused (data_of sheet) (Add c.args.node) (number_of refusal) (some_number refusal) first;
    })

pub invariant_of-self : goal.invariant_of-self
invariant_of-self c =
    let sheet = c.args.self.now in
    let count = sheet.nodes.ok.0 in
    let one_more : length (vec_items c.push_reserved.new.self) ≡ length (vec_items sheet.nodes) + 1 = ap length c.push_reserved.ensures.items ∙ length-append _ _ in
    let free = ap (λ (l : List Node). node_refusal l c.args.node) (sym (c.new.ensures ∙ c.deref.ensures.value)) ∙ c.in_ok-validate.ensures.value.0 in
    record {
      few = omega arith;
      room = omega (arith, sheet.room, c.push_reserved.ensures.capacity);
      sixteen = sheet.sixteen;
      stands = λ k. omega (arith, sheet.stands k);
      accepted = subst Accepted (sym c.push_reserved.ensures.items) (accepted_added (vec_items sheet.nodes) c.args.node sheet.accepted free);
    }

pub returns : goal.returns
returns c =
    let sheet = c.args.self.now in
    let count = sheet.nodes.ok.0 in
    let free : 0 ≡ node_refusal (vec_items sheet.nodes) c.args.node =
    sym (ap (λ (l : List Node). node_refusal l c.args.node) (sym (c.new.ensures ∙ c.deref.ensures.value)) ∙ c.in_ok-validate.ensures.value.0) in
    let none = sym (free ∙ not_full (length (vec_items sheet.nodes)) _ (omega arith)) in
    record {
      answer = ap taken (c.len-at.ensures ∙ count) ∙ done_taken (data_of sheet) (Add c.args.node) none;
      after = with_nodes c.push_reserved.ensures.items ∙ after_taken (data_of sheet) (Add c.args.node) none;
    }
