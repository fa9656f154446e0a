-- Each part follows the code's expression.
use Rattle.integer.proofs.Machine.{fits, within, is, is_stored, is_sum, is_product}
use Rattle.terrain.proofs.Grounds.{slope_is, bend_is, twist_is, part_is, ground_is}
use Rattle.terrain.proofs.cell.Cell.ground.Goals as goal

pub overflow_mul-east : goal.overflow_mul-east
overflow_mul-east c = fits (is_product (is_stored (is c.args.self.east_small) tt) (is_stored (is c.args.x.inside) tt)) tt

pub overflow_mul-east-2 : goal.overflow_mul-east-2
overflow_mul-east-2 c = fits (slope_is c.args.self.east_small c.args.x.inside) tt

pub overflow_mul-north : goal.overflow_mul-north
overflow_mul-north c = fits (is_product (is_stored (is c.args.self.north_small) tt) (is_stored (is c.args.y.inside) tt)) tt

pub overflow_mul-north-2 : goal.overflow_mul-north-2
overflow_mul-north-2 c = fits (slope_is c.args.self.north_small c.args.y.inside) tt

pub overflow_mul-twist : goal.overflow_mul-twist
overflow_mul-twist c = fits (bend_is c.args.self.twist_small c.args.x.inside) tt

pub overflow_mul-twist-2 : goal.overflow_mul-twist-2
overflow_mul-twist-2 c = fits (twist_is c.args.self.twist_small c.args.x.inside c.args.y.inside) tt

pub overflow_add-result : goal.overflow_add-result
overflow_add-result c = fits (part_is c.args.self c.args.x) tt

pub overflow_add-result-2 : goal.overflow_add-result-2
overflow_add-result-2 c = fits (is_sum (is_stored (part_is c.args.self c.args.x) tt) (is_stored (slope_is c.args.self.north_small c.args.y.inside) tt)) tt

pub overflow_add-result-3 : goal.overflow_add-result-3
overflow_add-result-3 c = fits (ground_is c.args.self c.args.x c.args.y) tt

pub returns : goal.returns
returns c = let a = is_stored (ground_is c.args.self c.args.x c.args.y) tt in record { value = a.same; small = within a tt }
