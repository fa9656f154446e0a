-- The outside of a lawful field is a lawful field.
use Rattle.std.specs.Prelude.{◌≡◌, ℤ, pos, ◌+ℤ◌, ◌-ℤ◌, ◌*ℤ◌, neg_ℤ, refl}
use Rattle.std.proofs.Common.{sym, ap, ◌∙◌}
use Rattle.integer.specs.Numbers.{absℤ}
use Rattle.integer.proofs.Ring.{ring, ◌:+◌, ◌:-◌, neg, ◌:=◌}
use Rattle.integer.proofs.Laws.{*ℤ_neg_left}
use Rattle.integer.proofs.Absolute.{abs_neg, within_same, within_neg}
use Rattle.affine.specs.declared.Form.{Form}
use Rattle.affine.specs.Forms.{low_end, high_end, opposite_of}
use Rattle.affine.proofs.Holding.{holds_opposite}
use Rattle.field.specs.Meaning.{Meaning, Laws}
use Rattle.field.specs.Layers.{outside_of}

-- the ends change places
opposite_low : (u : Form) (n : ℤ) → neg_ℤ (high_end u -ℤ n) ≡ low_end (opposite_of u) -ℤ neg_ℤ n
opposite_low u n =
    ring 4 (λ u0 a u2 n. neg (u0 :+ a :+ u2 :- n) := neg u0 :- a :- u2 :- neg n) refl u.u0 (absℤ u.u1) u.u2 n
    ∙ ap (λ (x : ℤ). neg_ℤ u.u0 -ℤ x -ℤ u.u2 -ℤ neg_ℤ n) (sym (abs_neg u.u1))

opposite_high : (u : Form) (n : ℤ) → neg_ℤ (low_end u -ℤ n) ≡ high_end (opposite_of u) -ℤ neg_ℤ n
opposite_high u n =
    ring 4 (λ u0 a u2 n. neg (u0 :- a :- u2 :- n) := neg u0 :+ a :+ u2 :- neg n) refl u.u0 (absℤ u.u1) u.u2 n
    ∙ ap (λ (x : ℤ). neg_ℤ u.u0 +ℤ x +ℤ u.u2 -ℤ neg_ℤ n) (sym (abs_neg u.u1))

pub outside_laws : (f : Meaning) → Laws f → Laws (outside_of f)
outside_laws f F = record {
  same_fraction = λ leg p q p' q' at at' same.
      *ℤ_neg_left (f.value leg p q) (q' *ℤ q') ∙ ap neg_ℤ (F.same_fraction leg p q p' q' at at' same) ∙ sym (*ℤ_neg_left (f.value leg p' q') (q *ℤ q));
  in_reach = λ leg p q at. within_neg (F.in_reach leg p q at);
  steepness≥0 = F.steepness≥0;
  steepness_in_reach = F.steepness_in_reach;
  reach_in_limit = F.reach_in_limit;
  holds = λ leg m r piece p q on. holds_opposite (pos m) (pos r) p q (f.bound leg m r) (f.value leg p q) (q *ℤ q) (F.holds leg m r piece p q on);
  low_near = λ leg m r piece. within_same (within_neg (F.high_near leg m r piece)) (opposite_low (f.bound leg m r) (f.value leg (pos m) (pos 1))) refl;
  high_near = λ leg m r piece. within_same (within_neg (F.low_near leg m r piece)) (opposite_high (f.bound leg m r) (f.value leg (pos m) (pos 1))) refl;
}
