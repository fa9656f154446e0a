-- Heights on a square lattice, and the surface through them, over ℤ with all fractions cleared.
-- A coordinate u counts from the lattice's low edge, and w is the width of a cell in the same unit. Cell i goes from w · i to w · (i + 1), both included.
use Rattle.std.specs.Prelude.{ℕ, suc, ◌<◌, ℤ, pos, ◌+ℤ◌, ◌-ℤ◌, ◌*ℤ◌, ◌≤ℤ◌}
use Rattle.integer.specs.Numbers.{Within}

-- w times the height at f of w on the straight line from a to b
abbrev pub mix : (w a b f : ℤ) → ℤ
mix w a b f = (w -ℤ f) *ℤ a +ℤ f *ℤ b

-- how far u lies into cell i
abbrev pub into : (w : ℤ) → ℕ → ℤ → ℤ
into w i u = u -ℤ w *ℤ pos i

-- u lies in the closed cell i
pub record InCell (w : ℤ) (i : ℕ) (u : ℤ) : Type 0 where
  pub from : pos 0 ≤ℤ into w i u
  pub to : into w i u ≤ℤ w

-- w times the height at u, by the line of cell i
abbrev pub along : (w : ℤ) → (ℕ → ℤ) → ℕ → ℤ → ℤ
along w h i u = mix w (h i) (h (suc i)) (into w i u)

-- w · w times the height at (u, v), by the surface of cell (i, j): along x on the two rows of the cell, then along y between them
abbrev pub over_cell : (w : ℤ) → (ℕ → ℕ → ℤ) → (i j : ℕ) → (u v : ℤ) → ℤ
over_cell w h i j u v = along w (λ (n : ℕ). along w (λ (k : ℕ). h k n) i u) j v

-- no two heights next to each other differ by more than D
pub record Steps (h : ℕ → ℕ → ℤ) (D : ℤ) : Type 0 where
  pub east : (i j : ℕ) → i < 128 → j < 129 → Within (h (suc i) j -ℤ h i j) D
  pub north : (i j : ℕ) → i < 129 → j < 128 → Within (h i (suc j) -ℤ h i j) D
