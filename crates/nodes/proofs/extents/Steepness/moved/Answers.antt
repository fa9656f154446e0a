use Rattle.integer.proofs.Machine.{fits, within, is_stored}
use Rattle.nodes.specs.QuadricsLemmas.{start_x_in, end_x_in, start_y_in, end_y_in, start_z_in, end_z_in}
use Rattle.nodes.proofs.ExtentCode.{is_size, is_moved}
use Rattle.nodes.proofs.extents.Steepness.moved.Goals as goal

pub overflow_mul-x : goal.overflow_mul-x
overflow_mul-x c = let leg = c.args.self.now.leg in fits (is_moved (start_x_in leg) (end_x_in leg) c.requires.0) tt

pub overflow_mul-y : goal.overflow_mul-y
overflow_mul-y c = let leg = c.args.self.now.leg in fits (is_moved (start_y_in leg) (end_y_in leg) c.requires.1.0) tt

pub overflow_mul-z : goal.overflow_mul-z
overflow_mul-z c = let leg = c.args.self.now.leg in fits (is_moved (start_z_in leg) (end_z_in leg) c.requires.1.1) tt

pub size-requires : goal.size-requires
size-requires c =
    let leg = c.args.self.now.leg in
    (within (is_stored (is_moved (start_x_in leg) (end_x_in leg) c.requires.0) tt) tt, (within (is_stored (is_moved (start_y_in leg) (end_y_in leg) c.requires.1.0) tt) tt, within (is_stored (is_moved (start_z_in leg) (end_z_in leg) c.requires.1.1) tt) tt))

pub returns : goal.returns
returns c =
    let leg = c.args.self.now.leg in
    let r = is_stored (is_size c.size.ensures
    (is_stored (is_moved (start_x_in leg) (end_x_in leg) c.requires.0) tt)
    (is_stored (is_moved (start_y_in leg) (end_y_in leg) c.requires.1.0) tt)
    (is_stored (is_moved (start_z_in leg) (end_z_in leg) c.requires.1.1) tt)) tt in
    record { value = r.same; small = within r tt }
