use Rattle.std.proofs.Common.{◌≡◌, ◌+◌, ◌-◌, length, vec_items, sym, ap, ◌∙◌, subst, arith, length-take}
use Rattle.areas.specs.Table.{AllStand, Accepted}
use Rattle.areas.proofs.Tables.{not_used}
use Rattle.sheet.proofs.Standings.{accepted_taken}
use Rattle.sheet.proofs.sheet.Sheet.take_back.Goals as goal

pub invariant_of-self : goal.invariant_of-self
invariant_of-self c =
    let sheet = c.args.self.now in
    let count = sheet.nodes.ok.0 in
    let shorter = c.pop.ensures.rest in
    let n = c.len-count.result - 1 in
    let one_less : length (vec_items c.pop.new.self) + 1 ≡ length (vec_items sheet.nodes) = omega (arith, ap length shorter ∙ length-take _ (vec_items sheet.nodes)) in
    let all : AllStand (n + 1) sheet.areas.slots = λ k. omega (arith, sheet.stands k) in
    let stand = not_used n sheet.areas.slots (sym c.if-has_node.ensures) all in
    record {
      few = omega (arith, sheet.few);
      room = omega (arith, sheet.room, c.pop.ensures.capacity);
      sixteen = sheet.sixteen;
      stands = λ k. omega (arith, stand k);
      accepted = subst Accepted (sym shorter) (accepted_taken _ (vec_items sheet.nodes) sheet.accepted);
    }
