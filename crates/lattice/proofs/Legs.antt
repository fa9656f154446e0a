-- The ranges that a leg keeps to, as bounds.
use Rattle.std.proofs.Common.{pos, negsuc, ◌≤ℤ◌}
use Rattle.integer.specs.Numbers.{Within}
use Rattle.integer.proofs.Absolute.{within_natural}
use Rattle.leg.specs.declared.shapes.Leg.{Leg}

-- x and y from -4096 to 4096, z from -16 to 660
pub record OnMap (leg : Leg) : Type 0 where
  pub x1_in : Within leg.start.x (pos 4096)
  pub x2_in : Within leg.end.x (pos 4096)
  pub y1_in : Within leg.start.y (pos 4096)
  pub y2_in : Within leg.end.y (pos 4096)
  pub z1_from : negsuc 15 ≤ℤ leg.start.z
  pub z1_to : leg.start.z ≤ℤ pos 660
  pub z2_from : negsuc 15 ≤ℤ leg.end.z
  pub z2_to : leg.end.z ≤ℤ pos 660

pub lies_on_map : (leg : Leg) → OnMap leg
lies_on_map leg = record {
  x1_in = within_natural leg.start.x 4096 leg.start_on_map.0;
  x2_in = within_natural leg.end.x 4096 leg.end_on_map.0;
  y1_in = within_natural leg.start.y 4096 leg.start_on_map.1;
  y2_in = within_natural leg.end.y 4096 leg.end_on_map.1;
  z1_from = leg.start_on_map.2;
  z1_to = leg.start_on_map.3;
  z2_from = leg.end_on_map.2;
  z2_to = leg.end_on_map.3;
}
