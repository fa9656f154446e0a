use Rattle.std.proofs.Common.{pos, ◌+ℤ◌, ◌-ℤ◌, ◌*ℤ◌, vec_items, refl, ◌∙◌}
use Rattle.integer.proofs.Machine.{Is, stored, fits, is_numeral, is_stored, is_sum, is_product}
use Rattle.integer.proofs.Ring.{ring, ◌:+◌, ◌:*◌, con, ◌:=◌}
use Rattle.integer.specs.Numbers.{absℤ}
use Rattle.lattice.specs.Terrain.{steepness, greatest_step}
use Rattle.terrain.specs.Rows.{heights_of}
use Rattle.terrain.proofs.Coordinates.{distance_is}
use Rattle.terrain.proofs.Lattices.{largest_is}
use Rattle.terrain.proofs.terrain.LatticeField.steepness.Goals as goal

across : (c : goal.After-result-1) →
    Is (stored c.distance-east.result +ℤ stored c.distance-north.result) (absℤ (c.args.leg.now.end.x -ℤ c.args.leg.now.start.x) +ℤ absℤ (c.args.leg.now.end.y -ℤ c.args.leg.now.start.y)) 16384
across c = is_sum (distance_is c.x.result c.x.ensures.from c.x.ensures.to c.distance-east.ensures) (distance_is c.y.result c.y.ensures.from c.y.ensures.to c.distance-north.ensures)

sloped : (c : goal.After-result-1) →
    Is (stored c.args.self.now.largest *ℤ stored (stored c.distance-east.result +ℤ stored c.distance-north.result))
    (pos (greatest_step (heights_of (vec_items c.args.self.now.heights.row))) *ℤ (absℤ (c.args.leg.now.end.x -ℤ c.args.leg.now.start.x) +ℤ absℤ (c.args.leg.now.end.y -ℤ c.args.leg.now.start.y))) 5177344
sloped c = is_product (largest_is c.args.self.now) (is_stored (across c) tt)

sum : (c : goal.After-result-1) →
    Is (stored (pos 16777216 *ℤ stored c.distance-climb.result) +ℤ stored (pos 786432 *ℤ stored (stored c.args.self.now.largest *ℤ stored (stored c.distance-east.result +ℤ stored c.distance-north.result))))
    (pos 16777216 *ℤ absℤ (c.args.leg.now.end.z -ℤ c.args.leg.now.start.z) +ℤ pos 786432
    *ℤ (pos (greatest_step (heights_of (vec_items c.args.self.now.heights.row))) *ℤ (absℤ (c.args.leg.now.end.x -ℤ c.args.leg.now.start.x) +ℤ absℤ (c.args.leg.now.end.y -ℤ c.args.leg.now.start.y)))) 4209067950080
sum c =
    is_sum (is_stored (is_product (is_numeral 16777216) (distance_is c.z.result c.z.ensures.from c.z.ensures.to c.distance-climb.ensures)) tt)
    (is_stored (is_product (is_numeral 786432) (is_stored (sloped c) tt)) tt)

pub overflow_add-result : goal.overflow_add-result
overflow_add-result c = fits (across c) tt

pub overflow_mul-result-3 : goal.overflow_mul-result-3
overflow_mul-result-3 c = fits (sloped c) tt

pub overflow_mul-result-4 : goal.overflow_mul-result-4
overflow_mul-result-4 c = fits (is_product (is_numeral 786432) (is_stored (sloped c) tt)) tt

pub overflow_add-result-2 : goal.overflow_add-result-2
overflow_add-result-2 c = fits (sum c) tt

pub returns : goal.returns
unfolding steepness
returns c =
    let leg = c.args.leg.now in
    (is_stored (sum c) tt).same
    ∙ ring 3 (λ z d a. con (pos 16777216) :* z :+ con (pos 786432) :* (d :* a) := con (pos 16777216) :* z :+ con (pos 786432) :* d :* a) refl
    (absℤ (leg.end.z -ℤ leg.start.z)) (pos (greatest_step (heights_of (vec_items c.args.self.now.heights.row)))) (absℤ (leg.end.x -ℤ leg.start.x) +ℤ absℤ (leg.end.y -ℤ leg.start.y))
