-- What the numbers of a verdict promise of a leg, in places and values alone.
use Rattle.std.specs.Prelude.{◌≡◌, ℕ, ◌+◌, ◌*◌, ◌<◌, ◌≤◌, ℤ, pos, negsuc, ◌*ℤ◌, ◌≤ℤ◌, ◌<ℤ◌}
use Rattle.leg.specs.Places.{OnLeg}
use Rattle.leg_check.specs.declared.verdict.Verdict.{Verdict}
use Rattle.leg_check.specs.declared.verdict.Verdict.TheVariants.{Clear, Inside, Entered, Near}

-- A verdict as numbers. The answer is clear 0, inside 1, entered 2 or near 3. The piece is −1 where clear and 0 where inside.
pub record Row : Type 0 where
  pub answer : ℕ
  pub piece : ℤ
  pub bounds : ℕ

abbrev pub row_of : Verdict → Row
row_of (Clear bounds) = record { answer = 0; piece = negsuc 0; bounds = bounds }
row_of Inside = record { answer = 1; piece = pos 0; bounds = 0 }
row_of (Entered k bounds) = record { answer = 2; piece = pos k; bounds = bounds }
row_of (Near k bounds) = record { answer = 3; piece = pos k; bounds = bounds }

-- the value is above 0 at every place up to the half-step `end`
abbrev pub Free : (ℤ → ℤ → ℤ) → ℕ → Type 0
Free F end = (p q : ℤ) → OnLeg p q → p ≤ℤ (pos end *ℤ q) → pos 0 <ℤ F p q

-- F p q is the value at the place p, q times q², and L the steepness. Piece k is the finest piece from the half-step 2k to 2k + 2.
pub record Promise (F : ℤ → ℤ → ℤ) (L : ℤ) (row : Row) : Type 0 where
  pub one_of_four : row.answer ≤ 3
  pub clear : row.answer ≡ 0 → Free F 4096
  pub inside : row.answer ≡ 1 → F (pos 0) (pos 1) ≤ℤ pos 0
  pub only_inside : F (pos 0) (pos 1) ≤ℤ pos 0 → row.answer ≡ 1
  pub entered : row.answer ≡ 2 → (k : ℕ) × (row.piece ≡ pos k) × (k < 2048) × Free F (2 * k) × (F (pos (2 * k + 2)) (pos 1) ≤ℤ pos 0)
  pub near : row.answer ≡ 3 → (k : ℕ) × (row.piece ≡ pos k) × (k < 2048) × Free F (2 * k) × (pos 0 <ℤ F (pos (2 * k + 2)) (pos 1)) × (F (pos (2 * k + 1)) (pos 1) ≤ℤ L)
