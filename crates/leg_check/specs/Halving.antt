-- The check of a leg, by recursion on the level of a piece: the piece at level n has the half-width 2^n.
use Rattle.std.specs.Prelude.{ℕ, zero, suc, ◌+◌, ◌-◌, ◌/◌, ◌^◌, Bool, true, false, pos, int_lt}
use Rattle.leg.specs.declared.shapes.Leg.{Leg}
use Rattle.affine.specs.Forms.{low_end}
use Rattle.field.specs.Meaning.{Meaning}
use Rattle.leg_check.specs.declared.verdict.Walk.{Walk}
use Rattle.leg_check.specs.declared.verdict.Walk.TheVariants.{Cleared, Stopped}
use Rattle.leg_check.specs.declared.verdict.Verdict.{Verdict}
use Rattle.leg_check.specs.declared.verdict.Verdict.TheVariants.{Clear, Inside, Entered, Near}

-- a low end above 0 clears the piece of middle m and half-width r
abbrev pub clears : Meaning → Leg → ℕ → ℕ → Bool
clears field leg m r = int_lt (pos 0) (low_end (field.bound leg m r))

-- the bounds that a walk took
abbrev pub bounds_of : Walk → ℕ
bounds_of (Cleared b) = b
bounds_of (Stopped m b) = b

-- the bounds of both halves, and the one of the piece
abbrev pub counted : ℕ → Walk → Walk
counted n (Cleared b) = Cleared (n + b + 1)
counted n (Stopped m b) = Stopped m (n + b + 1)

-- the first half ends the walk, or the second half is examined
abbrev pub and_then : Walk → Walk → Walk
and_then (Stopped m b) second = Stopped m (b + 1)
and_then (Cleared b) second = counted b second

-- the piece of middle m at level n is examined: its bound is taken, and, unless that clears it, its halves are examined or, at level 0, the walk stops
unfoldable pub examine_of : Meaning → Leg → ℕ → ℕ → Walk
examine_of field leg zero m = elim (clears field leg m 1) [ true ↦ Cleared 1 | false ↦ Stopped m 1 ]
examine_of field leg (suc n) m =
    elim (clears field leg m (2 ^ suc n)) [ true ↦ Cleared 1 | false ↦ and_then (examine_of field leg n (m - 2 ^ n)) (examine_of field leg n (m + 2 ^ n)) ]

-- where the walk stopped, the value at the end of the finest piece decides
abbrev pub verdict_of : Meaning → Leg → Walk → Verdict
verdict_of field leg (Cleared b) = Clear b
verdict_of field leg (Stopped m b) =
    elim (int_lt (pos 0) (field.value leg (pos (m + 1)) (pos 1))) [ true ↦ Near ((m - 1) / 2) b | false ↦ Entered ((m - 1) / 2) b ]

-- the start of the leg decides, or the whole leg is examined
abbrev pub check_of : Meaning → Leg → Verdict
check_of field leg =
    elim (int_lt (pos 0) (field.value leg (pos 0) (pos 1))) [ true ↦ verdict_of field leg (examine_of field leg 11 2048) | false ↦ Inside ]
