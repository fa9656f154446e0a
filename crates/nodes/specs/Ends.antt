-- The coordinates of a leg, and its half-steps as places.
use Rattle.std.specs.Prelude.{◌≡◌, ℕ, ◌≤◌, pos}
use Rattle.integer.proofs.Order.{natural≥0}
use Rattle.leg.specs.Places.{OnLeg}
use Rattle.affine.specs.declared.Form.{Form}
use Rattle.nodes.specs.declared.axes.Axes.{Axes}
use Rattle.nodes.specs.Numbers.{natural≤}

-- coordinates that are the same one by one are the same
pub same_axes : {x y z : Form} {axes : Axes} → x ≡ axes.x → y ≡ axes.y → z ≡ axes.z → record { x = x; y = y; z = z } ≡ axes
same_axes e f g = λ i. record { x = e i; y = f i; z = g i }

-- a half-step's number
pub step_on_leg : (n : ℕ) → n ≤ 4096 → OnLeg (pos n) (pos 1)
step_on_leg n h = record { parts = record { le = tt }; from = natural≥0 n; to = natural≤ h }
