-- What a form that holds a value at the middle of its piece says of it.
use Rattle.std.specs.Prelude.{ℕ, ℤ, pos, ◌≤ℤ◌}
use Rattle.integer.proofs.Bounding.{once, wide, left_of_middle, right_of_middle}
use Rattle.leg.specs.Ranges.{IsPiece}
use Rattle.leg.specs.Places.{OnPiece}
use Rattle.affine.specs.declared.Form.{Form}
use Rattle.affine.specs.Forms.{high_end}
use Rattle.affine.specs.Holding.{Holds}
use Rattle.affine.proofs.Holding.{spread≥0, below_high}

-- the middle is a place of the piece
pub at_middle : (m r : ℕ) → IsPiece m r → OnPiece (pos m) (pos r) (pos m) (pos 1)
at_middle m r piece = record { wide = wide piece.0; parts = record { le = tt }; from = left_of_middle m r; to = right_of_middle m r }

module _ (m r : ℕ) (piece : IsPiece m r) (u : Form) (n : ℤ) (held : Holds (pos m) (pos r) (pos m) (pos 1) u n (pos 1)) where
  -- its third number is not negative
  pub spread : pos 0 ≤ℤ u.u2
  spread = spread≥0 (pos m) (pos r) (pos m) (pos 1) (at_middle m r piece) u n (pos 1) held

  -- its high end is at least the value
  pub under_high : n ≤ℤ high_end u
  under_high = once (below_high (pos m) (pos r) (pos m) (pos 1) (at_middle m r piece) u n (pos 1) held)
