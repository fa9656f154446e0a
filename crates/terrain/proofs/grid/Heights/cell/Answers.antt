use Rattle.integer.proofs.Machine.{fits, within, is_stored, is_difference}
use Rattle.terrain.proofs.Corners.{Read, base_is, east_of, north_of, east_is, north_is, three_is, twist_is}
use Rattle.terrain.proofs.grid.Heights.cell.Goals as goal

read : (c : goal.After-at-h11) → Read c.args.self.now c.args.x c.args.y c.at-h00.result c.at-h10.result c.at-h01.result c.at-h11.result
read c = record { here = c.at-h00.ensures; east = c.at-h10.ensures; north = c.at-h01.ensures; across = c.at-h11.ensures }

pub overflow_sub-result : goal.overflow_sub-result
overflow_sub-result c = fits (is_difference (east_of (read c)) (base_is (read c))) tt

pub overflow_sub-result-2 : goal.overflow_sub-result-2
overflow_sub-result-2 c = fits (is_difference (north_of (read c)) (base_is (read c))) tt

pub overflow_sub-result-3 : goal.overflow_sub-result-3
overflow_sub-result-3 c = fits (is_difference (base_is (read c)) (east_of (read c))) tt

pub overflow_sub-result-4 : goal.overflow_sub-result-4
overflow_sub-result-4 c = fits (three_is (read c)) tt

pub overflow_add-result : goal.overflow_add-result
overflow_add-result c = fits (twist_is (read c)) tt

pub invariant_of-result : goal.invariant_of-result
invariant_of-result c =
    record { base_small = within (base_is (read c)) tt; east_small = within (east_is (read c)) tt; north_small = within (north_is (read c)) tt; twist_small = within (is_stored (twist_is (read c)) tt) tt }

pub returns : goal.returns
returns c =
    let r : Read c.args.self.now c.args.x c.args.y c.at-h00.result c.at-h10.result c.at-h01.result c.at-h11.result =
    record { here = c.at-h00.ensures; east = c.at-h10.ensures; north = c.at-h01.ensures; across = c.at-h11.ensures } in
    record { base = (base_is r).same; east = (east_is r).same; north = (north_is r).same; twist = (is_stored (twist_is r) tt).same }
