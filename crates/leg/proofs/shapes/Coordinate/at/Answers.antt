use Rattle.std.proofs.Common.{◌≡◌, ℤ, pos, ◌+ℤ◌, ◌-ℤ◌, ◌*ℤ◌, sym, refl, ◌∙◌, subst, arith}
use borrow.Author.Differences.{ints}
use Rattle.integer.specs.Numbers.{Within}
use Rattle.integer.proofs.Machine.{Is, stored, fits, is, is_by, is_numeral, is_stored, is_sum, is_difference, is_product}
use Rattle.integer.proofs.Ring.{ring, ◌:+◌, ◌:-◌, ◌:*◌, con, ◌:=◌}
use Rattle.leg.specs.Places.{coordinate}
use Rattle.leg.proofs.Places.{coordinate_small}
use Rattle.leg.proofs.shapes.Coordinate.at.Goals as goal

sum : (c : goal.After-from) →
    Is (stored (pos 4096 *ℤ stored c.args.self.from) +ℤ stored (stored (stored c.args.self.to -ℤ stored c.args.self.from) *ℤ stored c.from.result)) (pos 4096 *ℤ c.args.self.from +ℤ (c.args.self.to -ℤ c.args.self.from) *ℤ pos c.args.step.at) 50331648
sum c =
    let a = is_stored (is c.args.self.from_small) tt in
    let b = is_stored (is c.args.self.to_small) tt in
    let h = c.args.step.within in
    let few : Within (pos c.args.step.at) (pos 4096) = record { above = omega (arith, ints); below = omega (arith, ints) } in
    let s = is_stored (is_by c.from.ensures (is few)) tt in
    is_sum (is_stored (is_product (is_numeral 4096) a) tt) (is_stored (is_product (is_stored (is_difference b a) tt) s) tt)

exact : (c : goal.After-from) →
    stored (stored (pos 4096 *ℤ stored c.args.self.from) +ℤ stored (stored (stored c.args.self.to -ℤ stored c.args.self.from) *ℤ stored c.from.result)) ≡ coordinate c.args.self.from c.args.self.to (pos c.args.step.at) (pos 1)
exact c =
    (is_stored (sum c) tt).same
    ∙ ring 3 (λ a b s. con (pos 4096) :* a :+ (b :- a) :* s := con (pos 4096) :* a :* con (pos 1) :+ (b :- a) :* s) refl c.args.self.from c.args.self.to (pos c.args.step.at)

pub overflow_add-result : goal.overflow_add-result
overflow_add-result c = fits (sum c) tt

pub returns : goal.returns
returns c = record {
  value = exact c;
  small = subst (λ (x : ℤ). Within x (pos 16777216)) (sym (exact c)) (coordinate_small c.args.self.from c.args.self.to c.args.step.at c.args.self.from_small c.args.self.to_small c.args.step.within);
}
