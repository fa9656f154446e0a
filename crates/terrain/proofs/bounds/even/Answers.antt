use Rattle.std.proofs.Common.{pos}
use Rattle.integer.proofs.Machine.{within, is, is_of, is_numeral, is_stored}
use Rattle.terrain.proofs.bounds.even.Goals as goal

pub returns : goal.returns
returns c =
    let slope = is_stored (is_of c.change.ensures.value c.change.ensures.small) tt in
    let base = is_stored (is c.requires) tt in
    record { value = λ t. record { u0 = base.same t; u1 = slope.same t; u2 = pos 0 }; small = record { first = within base tt; second = within slope tt; third = within (is_numeral 0) tt } }
