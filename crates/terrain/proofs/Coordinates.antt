-- Where a half-step lies, as the code has it.
use Rattle.std.proofs.Common.{◌≡◌, ℕ, ◌+◌, ◌/◌, ◌<◌, ◌≤◌, min, Bool, true, false, ◌&&◌, ℤ, pos, negsuc, ◌-ℤ◌, ◌*ℤ◌, ◌≤ℤ◌, nat_abs, sym, ap, ◌∙◌, subst, arith, w64, to_z, SFits}
use lib.Signed.{quot_z}
use borrow.Author.Differences.{ints}
use Rattle.std.proofs.lemmas.Int.{to_z-of_z}
use Rattle.integer.proofs.Absolute.{within_from, within_abs_self}
use Rattle.integer.proofs.Machine.{Is, stored, is, is_of, is_stored, is_difference}
use Rattle.integer.specs.Numbers.{Within, absℤ}
use Rattle.lattice.proofs.Places.{edge≥0, edge_to, in_its_cell}
use Rattle.lattice.specs.Surface.{into}
use Rattle.lattice.specs.Terrain.{from_edge, cell_of}
use Rattle.leg.specs.Places.{OnLeg, coordinate}
use Rattle.leg.specs.declared.shapes.HalfStep.{HalfStep}
use Rattle.leg.specs.declared.shapes.Piece.{Piece}
use Rattle.leg.proofs.Places.{coordinate_small}
use Rattle.leg.proofs.Shaping.{piece_span}
use Rattle.leg.specs.declared.shapes.Coordinate.{Coordinate}
use Rattle.terrain.specs.Moves.{edge_at, cell_at, depth_at}

pub step_place : (step : HalfStep) → OnLeg (pos step.at) (pos 1)
step_place step = let h = step.within in record { parts = record { le = tt }; from = omega (arith, ints); to = omega (arith, ints) }

pub edge_low : (run : Coordinate) (step : HalfStep) → pos 0 ≤ℤ edge_at run (pos step.at)
edge_low run step = edge≥0 run.from run.to (pos step.at) (pos 1) run.from_small run.to_small (step_place step)

pub edge_high : (run : Coordinate) (step : HalfStep) → edge_at run (pos step.at) ≤ℤ pos 33554432
edge_high run step = edge_to run.from run.to (pos step.at) (pos 1) run.from_small run.to_small (step_place step)

-- ---- the same by the ends that the run was made of

module _ (run : Coordinate) {a b : ℤ} (from : run.from ≡ a) (to : run.to ≡ b) where
  -- what is answered at a half-step
  pub scaled_is : (step : HalfStep) {r : ℤ} → r ≡ coordinate run.from run.to (pos step.at) (pos 1) → Is (stored r) (coordinate a b (pos step.at) (pos 1)) 16777216
  scaled_is step e =
      is_stored (is_of (e ∙ (λ t. coordinate (from t) (to t) (pos step.at) (pos 1))) (subst (λ (x : ℤ). Within x (pos 16777216)) (sym e) (coordinate_small run.from run.to step.at run.from_small run.to_small step.within))) tt

  pub index_is : (s : ℤ) {n : ℕ} → n ≡ cell_at run s → n ≡ cell_of (pos 262144) (from_edge a b s (pos 1))
  index_is s e = e ∙ (λ t. cell_of (pos 262144) (from_edge (from t) (to t) s (pos 1)))

  pub depth_by : (s : ℤ) {d : ℤ} → d ≡ depth_at run s → d ≡ into (pos 262144) (cell_of (pos 262144) (from_edge a b s (pos 1))) (from_edge a b s (pos 1))
  depth_by s e = e ∙ (λ t. into (pos 262144) (cell_of (pos 262144) (from_edge (from t) (to t) s (pos 1))) (from_edge (from t) (to t) s (pos 1)))

  pub change_by : (r : ℤ) → (run.to -ℤ run.from) *ℤ r ≡ (b -ℤ a) *ℤ r
  change_by r = λ t. (to t -ℤ from t) *ℤ r

  pub distance_is : {r : ℤ} → r ≡ absℤ (run.to -ℤ run.from) → Is (stored r) (absℤ (b -ℤ a)) 8192
  distance_is e =
      is_stored (is_of (e ∙ (λ t. absℤ (to t -ℤ from t))) (subst (λ (x : ℤ). Within x (pos 8192)) (sym e) (within_abs_self (is_difference (is run.to_small) (is run.from_small)).small))) tt

-- ---- a place u of the lattice

quotient : (u : ℤ) → pos 0 ≤ℤ u → u ≤ℤ pos 33554432 → nat_abs (stored (quot_z (stored u) (pos 262144))) ≡ nat_abs u / 262144
quotient (pos n) low high =
    let fits : SFits w64 (pos n) = omega (arith, ints) in
    let small : SFits w64 (pos (n / 262144)) = omega (arith, ints) in
    ap (λ (x : ℤ). nat_abs (stored (quot_z x (pos 262144)))) (to_z-of_z w64 (pos n) fits) ∙ ap nat_abs (to_z-of_z w64 (pos (n / 262144)) small)
quotient (negsuc n) low high = absurd low.le

module _ (u : ℤ) (low : pos 0 ≤ℤ u) (high : u ≤ℤ pos 33554432) where
  pub cell_is : {n : ℕ} → n ≡ min (nat_abs (stored (quot_z (stored u) (pos 262144)))) 127 → n ≡ cell_of (pos 262144) u
  unfolding cell_of
  cell_is e = e ∙ ap (λ (d : ℕ). min d 127) (quotient u low high)

  pub depth_small : Within (into (pos 262144) (cell_of (pos 262144) u) u) (pos 262144)
  depth_small = plain _ (in_its_cell (pos 262144) u (record { le = tt }) low high).from (in_its_cell (pos 262144) u (record { le = tt }) low high).to
    where
      plain : (f : ℤ) → pos 0 ≤ℤ f → f ≤ℤ pos 262144 → Within f (pos 262144)
      plain f low high = within_from f (pos 262144) (omega (arith, ints)) (omega (arith, ints))

  pub depth_is : (n : ℕ) → n < 128 → stored (stored u -ℤ stored (pos 262144 *ℤ to_z w64 n)) ≡ into (pos 262144) n u
  depth_is n n< = omega (arith, ints)

  pub depth_in : {n : ℕ} → n < 128 → n ≡ min (nat_abs (stored (quot_z (stored u) (pos 262144)))) 127 →
      stored (stored u -ℤ stored (pos 262144 *ℤ to_z w64 n)) ≡ into (pos 262144) (cell_of (pos 262144) u) u
  depth_in {n} n< e = depth_is n n< ∙ ap (λ (i : ℕ). into (pos 262144) i u) (cell_is e)

-- the two ways through `first && last`
pub and_then : {t u x y : Bool} → t ≡ true → t ≡ x → u ≡ y → u ≡ (x && y)
and_then {y} taken first last = last ∙ ap (λ (z : Bool). z && y) (sym taken ∙ first)

pub and_else : {t x : Bool} (y : Bool) → t ≡ false → t ≡ x → t ≡ (x && y)
and_else y left first = left ∙ ap (λ (z : Bool). z && y) (sym left ∙ first)

-- ---- a piece lies on the leg

pub half_small : (piece : Piece) → Within (pos piece.half) (pos 2048)
half_small piece =
    let some = piece.made.0 in let span = piece_span piece.middle piece.half piece.made in
    plain piece.middle piece.half span.0 span.1
  where
    plain : (m r : ℕ) → r ≤ m → m + r ≤ 4096 → Within (pos r) (pos 2048)
    plain m r h l = within_from (pos r) (pos 2048) (omega (arith, ints)) (omega (arith, ints))
