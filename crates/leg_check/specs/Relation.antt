-- Which piece a check names and how many bounds it takes, said of all pieces at once and not by the steps of the check.
-- `cleared m r` says whether the piece of middle m and half-width r is cleared.
use Rattle.std.specs.Prelude.{◌≡◌, ℕ, zero, suc, ◌+◌, ◌-◌, ◌*◌, ◌^◌, ◌<◌, ◌≤◌, Bool, true, false, cond, ◌&&◌, ℤ, pos, negsuc, ◌≤ℤ◌, ◌<ℤ◌, Decides, ◌==◌}
use Rattle.leg.specs.Ranges.{IsPiece}
use Rattle.leg_check.specs.Promise.{Row}

-- the piece of middle m and half-width r contains the piece of middle x and half-width s
abbrev pub Contains : ℕ → ℕ → ℕ → ℕ → Type 0
Contains m r x s = (m + s ≤ x + r) × (x + s ≤ m + r)

-- some cleared piece contains the finest piece k
abbrev pub Covered : (ℕ → ℕ → Bool) → ℕ → Type 0
Covered cleared k = (m : ℕ) × (r : ℕ) × IsPiece m r × Contains m r (2 * k + 1) 1 × (cleared m r ≡ true)

-- no larger cleared piece contains the piece of middle x and half-width s
abbrev pub Exposed : (ℕ → ℕ → Bool) → ℕ → ℕ → Type 0
Exposed cleared x s = (m r : ℕ) → IsPiece m r → s < r → Contains m r x s → cleared m r ≡ false

-- k is the first finest piece that no cleared piece contains
pub record First (cleared : ℕ → ℕ → Bool) (k : ℕ) : Type 0 where
  pub finest : k < 2048
  pub uncovered : Covered cleared k → ⊥
  pub before : (j : ℕ) → j < k → Covered cleared j

-- how many pieces pass a test: the piece of middle m and half-width 2^n, and those of its two halves
abbrev pub passing : (ℕ → ℕ → Bool) → ℕ → ℕ → ℕ
passing test zero m = cond (test m 1) 1 0
passing test (suc n) m = cond (test m (2 ^ suc n)) 1 0 + (passing test n (m - 2 ^ n) + passing test n (m + 2 ^ n))

-- the test that one piece alone passes
abbrev pub only : ℕ → ℕ → ℕ → ℕ → Bool
only x s m r = m == x && r == s

-- the test tells which pieces are such
abbrev pub Tells : (ℕ → ℕ → Bool) → (ℕ → ℕ → Type 0) → Type 0
Tells test Such = (m r : ℕ) → IsPiece m r → Decides (test m r) (Such m r)

-- n of the pieces of a leg are such: so many pass a test that tells which are, and any other that does
pub record HowMany (Such : ℕ → ℕ → Type 0) (n : ℕ) : Type 0 where
  pub test : ℕ → ℕ → Bool
  pub tells : Tells test Such
  pub count : n ≡ passing test 11 2048
  pub same : (other : ℕ → ℕ → Bool) → Tells other Such → n ≡ passing other 11 2048

-- F p q is the value at the place p, q times q²
pub record Relation (F : ℤ → ℤ → ℤ) (cleared : ℕ → ℕ → Bool) (row : Row) : Type 0 where
  pub one_of_four : row.answer ≤ 3
  -- inside, with piece 0 and no bound, exactly when the value at the start is not above 0
  pub inside : F (pos 0) (pos 1) ≤ℤ pos 0 → (row.answer ≡ 1) × (row.piece ≡ pos 0) × (row.bounds ≡ 0)
  pub only_inside : row.answer ≡ 1 → F (pos 0) (pos 1) ≤ℤ pos 0
  -- clear, with piece −1, exactly when every finest piece is in a cleared one; the bounds are then the exposed pieces
  pub clear : row.answer ≡ 0 → (row.piece ≡ negsuc 0) × ((k : ℕ) → k < 2048 → Covered cleared k) × HowMany (Exposed cleared) row.bounds
  pub only_clear : pos 0 <ℤ F (pos 0) (pos 1) → ((k : ℕ) → k < 2048 → Covered cleared k) → row.answer ≡ 0
  -- entered or near: the first finest piece that is in no cleared one, and the bounds are the exposed pieces that start no later
  pub named : 2 ≤ row.answer → (k : ℕ) × (row.piece ≡ pos k) × First cleared k × HowMany (λ m r. Exposed cleared m r × (m - r ≤ 2 * k)) row.bounds
  -- entered if the value at the end of the piece is not above 0, else near
  pub entered : (k : ℕ) → row.piece ≡ pos k → row.answer ≡ 2 → F (pos (2 * k + 2)) (pos 1) ≤ℤ pos 0
  pub near : (k : ℕ) → row.piece ≡ pos k → row.answer ≡ 3 → pos 0 <ℤ F (pos (2 * k + 2)) (pos 1)
  pub few_bounds : row.bounds ≤ 4095
