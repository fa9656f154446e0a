-- Two lawful fields joined are a lawful field, if the reach is within the limit. Shown once for the union and the common part.
use Rattle.std.specs.Prelude.{◌≡◌, ℕ, ℤ, pos, ◌+ℤ◌, ◌-ℤ◌, ◌*ℤ◌, ◌≤ℤ◌, refl}
use Rattle.std.proofs.Common.{sym, ap, ap₂, ◌∙◌}
use Rattle.std.specs.Int.{int_min, int_max}
use Rattle.std.proofs.lemmas.Int.{by_lt_z}
use Rattle.integer.specs.Numbers.{Within}
use Rattle.integer.proofs.Ring.{ring, ◌:+◌, ◌:*◌, con, ◌:=◌}
use Rattle.integer.proofs.Order.{natural≥0, product≥0, weaker, times_right≤}
use Rattle.integer.proofs.Absolute.{within_same, within_wider}
use Rattle.integer.proofs.Bounding.{at_most, at_most_more, near_above, larger_scaled, larger≥0, lesser_near, greater_near}
use Rattle.integer.proofs.Extremes.{min_is_first, min_is_second, min_has, max_is_first, max_is_second, max_has, max_first, max_second}
use Rattle.leg.specs.declared.shapes.Leg.{Leg}
use Rattle.leg.specs.Ranges.{IsPiece}
use Rattle.leg.specs.Places.{OnPiece}
use Rattle.affine.specs.declared.Form.{Form}
use Rattle.affine.specs.Forms.{low_end, high_end, lesser_of, greater_of}
use Rattle.affine.specs.Holding.{Holds}
use Rattle.affine.proofs.Choosing.{holds_lesser, holds_greater, lesser_ends, greater_ends}
use Rattle.field.specs.Meaning.{Meaning, Laws}
use Rattle.field.specs.Layers.{joined, union_of, common_of, InLimit}
use Rattle.field.specs.Bounds.{at_middle, spread, under_high}

-- what joining takes from a choice between two numbers and the like between two forms
pub record Picks (pick : ℤ → ℤ → ℤ) (join : Form → Form → Form) : Type 0 where
  pub within : (a b s : ℤ) → Within a s → Within b s → Within (pick a b) s
  pub scaled : (a b k : ℤ) → pos 0 ≤ℤ k → pick a b *ℤ k ≡ pick (a *ℤ k) (b *ℤ k)
  pub near : (a b c d s : ℤ) → Within (a -ℤ c) s → Within (b -ℤ d) s → Within (pick a b -ℤ pick c d) s
  pub low : (u v : Form) → pos 0 ≤ℤ u.u2 → pos 0 ≤ℤ v.u2 → low_end (join u v) ≡ pick (low_end u) (low_end v)
  pub high : (u v : Form) → pos 0 ≤ℤ u.u2 → pos 0 ≤ℤ v.u2 → high_end (join u v) ≤ℤ (pick (high_end u) (high_end v) +ℤ pos 1)
  pub holds : (m r p q : ℤ) → OnPiece m r p q → (u v : Form) (n k d : ℤ) → Holds m r p q u n d → Holds m r p q v k d → Holds m r p q (join u v) (pick n k) d

-- ---- two fields joined by such a choice

-- a bound by either of two numbers is one by the larger and more
by_first : (a b e k : ℤ) → pos 0 ≤ℤ e → pos 0 ≤ℤ k → (a *ℤ k) ≤ℤ ((int_max a b +ℤ e) *ℤ k)
by_first a b e k h some = times_right≤ some (at_most_more h (max_first a b))

by_second : (a b e k : ℤ) → pos 0 ≤ℤ e → pos 0 ≤ℤ k → (b *ℤ k) ≤ℤ ((int_max a b +ℤ e) *ℤ k)
by_second a b e k h some = times_right≤ some (at_most_more h (max_second a b))

-- the larger steepness, and 1 more for the rounding of the joined form's centre
one_more : (L r : ℤ) → (L +ℤ pos 0) *ℤ r +ℤ r ≡ (L +ℤ pos 1) *ℤ r
one_more = ring 2 (λ L r. (L :+ con (pos 0)) :* r :+ r := (L :+ con (pos 1)) :* r) refl

square≥0 : {q : ℤ} → pos 1 ≤ℤ q → pos 0 ≤ℤ (q *ℤ q)
square≥0 h = product≥0 (weaker h) (weaker h)

-- a factor that is not negative keeps the order
min_scaled : (a b k : ℤ) → pos 0 ≤ℤ k → int_min a b *ℤ k ≡ int_min (a *ℤ k) (b *ℤ k)
min_scaled a b k some =
    by_lt_z {P = int_min a b *ℤ k ≡ int_min (a *ℤ k) (b *ℤ k)} a b
    (λ h. let order = at_most h in ap (λ (x : ℤ). x *ℤ k) (min_is_first order) ∙ sym (min_is_first (times_right≤ some order)))
    (λ order. ap (λ (x : ℤ). x *ℤ k) (min_is_second order) ∙ sym (min_is_second (times_right≤ some order)))

max_scaled : (a b k : ℤ) → pos 0 ≤ℤ k → int_max a b *ℤ k ≡ int_max (a *ℤ k) (b *ℤ k)
max_scaled a b k some =
    by_lt_z {P = int_max a b *ℤ k ≡ int_max (a *ℤ k) (b *ℤ k)} a b
    (λ h. let order = at_most h in ap (λ (x : ℤ). x *ℤ k) (max_is_second order) ∙ sym (max_is_second (times_right≤ some order)))
    (λ order. ap (λ (x : ℤ). x *ℤ k) (max_is_first order) ∙ sym (max_is_first (times_right≤ some order)))

module _ (pick : ℤ → ℤ → ℤ) (join : Form → Form → Form) (c : Picks pick join) (f g : Meaning) (F : Laws f) (G : Laws g) where
  abbrev both : Meaning
  both = joined pick join f g

  module _ (leg : Leg) (m r : ℕ) (piece : IsPiece m r) where
    first_spread : pos 0 ≤ℤ (f.bound leg m r).u2
    first_spread = spread m r piece (f.bound leg m r) (f.value leg (pos m) (pos 1)) (F.holds leg m r piece (pos m) (pos 1) (at_middle m r piece))

    second_spread : pos 0 ≤ℤ (g.bound leg m r).u2
    second_spread = spread m r piece (g.bound leg m r) (g.value leg (pos m) (pos 1)) (G.holds leg m r piece (pos m) (pos 1) (at_middle m r piece))

    joined_holds : (p q : ℤ) → OnPiece (pos m) (pos r) p q → Holds (pos m) (pos r) p q (both.bound leg m r) (both.value leg p q) (q *ℤ q)
    joined_holds p q on =
        c.holds (pos m) (pos r) p q on (f.bound leg m r) (g.bound leg m r) (f.value leg p q) (g.value leg p q) (q *ℤ q)
        (F.holds leg m r piece p q on) (G.holds leg m r piece p q on)

    -- what is picked of two ends is as near to the value as the farther of the two
    picked_near : (e x y : ℤ) → pos 0 ≤ℤ e → Within (x -ℤ f.value leg (pos m) (pos 1)) (f.steepness leg *ℤ pos r) → Within (y -ℤ g.value leg (pos m) (pos 1)) (g.steepness leg *ℤ pos r) →
        Within (pick x y -ℤ both.value leg (pos m) (pos 1)) ((int_max (f.steepness leg) (g.steepness leg) +ℤ e) *ℤ pos r)
    picked_near e x y e≥0 v w =
        c.near _ _ _ _ _
        (within_wider v (by_first (f.steepness leg) (g.steepness leg) e (pos r) e≥0 (natural≥0 r)))
        (within_wider w (by_second (f.steepness leg) (g.steepness leg) e (pos r) e≥0 (natural≥0 r)))

    joined_low : Within (low_end (both.bound leg m r) -ℤ both.value leg (pos m) (pos 1)) (both.steepness leg *ℤ pos r)
    joined_low =
        within_same (picked_near (pos 1) _ _ (record { le = tt }) (F.low_near leg m r piece) (G.low_near leg m r piece))
        (ap (λ (x : ℤ). x -ℤ both.value leg (pos m) (pos 1)) (sym (c.low (f.bound leg m r) (g.bound leg m r) first_spread second_spread))) refl

    joined_high : Within (high_end (both.bound leg m r) -ℤ both.value leg (pos m) (pos 1)) (both.steepness leg *ℤ pos r)
    joined_high =
        within_same
        (near_above (both.value leg (pos m) (pos 1)) (high_end (both.bound leg m r)) (pick (high_end (f.bound leg m r)) (high_end (g.bound leg m r))) ((int_max (f.steepness leg) (g.steepness leg) +ℤ pos 0) *ℤ pos r) (pos r)
        (at_middle m r piece).wide
        (under_high m r piece (both.bound leg m r) (both.value leg (pos m) (pos 1)) (joined_holds (pos m) (pos 1) (at_middle m r piece)))
        (c.high (f.bound leg m r) (g.bound leg m r) first_spread second_spread)
        (picked_near (pos 0) _ _ (record { le = tt }) (F.high_near leg m r piece) (G.high_near leg m r piece)))
        refl (one_more (int_max (f.steepness leg) (g.steepness leg)) (pos r))

  pub joined_laws : InLimit both → Laws both
  joined_laws limit = record {
    same_fraction = λ leg p q p' q' at at' same.
        c.scaled (f.value leg p q) (g.value leg p q) (q' *ℤ q') (square≥0 at'.parts)
        ∙ ap₂ pick (F.same_fraction leg p q p' q' at at' same) (G.same_fraction leg p q p' q' at at' same)
        ∙ sym (c.scaled (f.value leg p' q') (g.value leg p' q') (q *ℤ q) (square≥0 at.parts));
    in_reach = λ leg p q at.
        c.within _ _ _
        (within_wider (F.in_reach leg p q at) (by_first f.reach g.reach (pos 2048) (q *ℤ q) (record { le = tt }) (square≥0 at.parts)))
        (within_wider (G.in_reach leg p q at) (by_second f.reach g.reach (pos 2048) (q *ℤ q) (record { le = tt }) (square≥0 at.parts)));
    steepness≥0 = λ leg. larger≥0 (f.steepness leg) (g.steepness leg) (F.steepness≥0 leg);
    steepness_in_reach = λ leg. larger_scaled (f.steepness leg) (g.steepness leg) f.reach g.reach (F.steepness_in_reach leg) (G.steepness_in_reach leg);
    reach_in_limit = limit;
    holds = joined_holds;
    low_near = joined_low;
    high_near = joined_high;
  }

-- ---- the lesser and the greater are such choices

pub lesser_picks : Picks int_min lesser_of
lesser_picks = record {
  within = λ a b s v w. min_has a b (λ (x : ℤ). Within x s) v w;
  scaled = min_scaled;
  near = lesser_near;
  low = λ u v h k. (lesser_ends u v h k).low;
  high = λ u v h k. (lesser_ends u v h k).high;
  holds = λ m r p q on u v n k d h l. holds_lesser m r p q on u v n k d h l;
}

pub greater_picks : Picks int_max greater_of
greater_picks = record {
  within = λ a b s v w. max_has a b (λ (x : ℤ). Within x s) v w;
  scaled = max_scaled;
  near = greater_near;
  low = λ u v h k. (greater_ends u v h k).low;
  high = λ u v h k. (greater_ends u v h k).high;
  holds = λ m r p q on u v n k d h l. holds_greater m r p q on u v n k d h l;
}

pub union_laws : (f g : Meaning) → Laws f → Laws g → InLimit (union_of f g) → Laws (union_of f g)
union_laws f g F G limit = joined_laws int_min lesser_of lesser_picks f g F G limit

pub common_laws : (f g : Meaning) → Laws f → Laws g → InLimit (common_of f g) → Laws (common_of f g)
common_laws f g F G limit = joined_laws int_max greater_of greater_picks f g F G limit
