-- What a check answers can be printed.
use Rattle.std.proofs.Common.{◌≡◌, ℕ, zero, suc, ◌<◌, ◌≤◌, List, ℤ, pos, negsuc, nat_abs, ◌≤ℤ◌, sym, refl, ap, subst, arith}
use borrow.Author.Differences.{ints}
use Rattle.integer.specs.Numbers.{Within}
use Rattle.integer.proofs.Absolute.{within_from}
use Rattle.leg.specs.declared.shapes.Point.{Point}
use Rattle.leg_check.specs.Promise.{Row, Promise}
use Rattle.leg_check.specs.Relation.{Relation}
use Rattle.sheet.specs.Calls.{SheetData}
use Rattle.sheet.specs.Answers.{Answer, taken, refused, checked}
use Rattle.sheet.specs.Kept.{Joint, Shown, Kept}
use Rattle.listing.specs.Rows.{start_of, end_of, OnMap, Printable}

small : (x y : ℤ) → x ≡ y → nat_abs x ≤ 4096 → Within y (pos 4096)
small x y e h = subst (λ (z : ℤ). Within z (pos 4096)) e (within_from x (pos 4096) (omega (arith, ints)) (omega (arith, ints)))

level : (x y : ℤ) → x ≡ y → negsuc 15 ≤ℤ x → x ≤ℤ pos 660 → Within y (pos 4096)
level x y e h k = subst (λ (z : ℤ). Within z (pos 4096)) e (within_from x (pos 4096) (omega (arith, ints)) (omega (arith, ints)))

-- the piece of a verdict is −1 or below 2048
piece_small : (F : ℤ → ℤ → ℤ) (L : ℤ) (cleared : _) (row : Row) → Promise F L row → Relation F cleared row → nat_abs row.piece ≤ 2048
piece_small F L cleared row p r = by_answer row.answer refl
  where
    named : {x : ℤ} (k : ℕ) → x ≡ pos k → k < 2048 → nat_abs x ≤ 2048
    named k e h = subst (λ (z : ℤ). nat_abs z ≤ 2048) (sym e) (omega arith)

    by_answer : (n : ℕ) → row.answer ≡ n → nat_abs row.piece ≤ 2048
    by_answer zero e = subst (λ (z : ℤ). nat_abs z ≤ 2048) (sym (r.clear e).0) (omega arith)
    by_answer (suc zero) e = subst (λ (z : ℤ). nat_abs z ≤ 2048) (sym (r.inside (r.only_inside e)).1) (omega arith)
    by_answer (suc (suc zero)) e = let k = p.entered e in named k.0 k.1 k.2
    by_answer (suc (suc (suc zero))) e = let k = p.near e in named k.0 k.1 k.2
    by_answer (suc (suc (suc (suc n)))) e = let few = p.one_of_four in absurd (omega arith)

module _ (joint : Joint) (sheet : SheetData) (row : List ℤ) where
  shown_on_map : (r : Row) → Shown joint sheet (start_of row) (end_of row) r → OnMap row
  shown_on_map r s =
      let j = s.joins in let a = s.leg.start_on_map in let b = s.leg.end_on_map in
      record {
        x1_in = small _ _ (ap (λ (p : Point). p.x) j.0) a.0;
        y1_in = small _ _ (ap (λ (p : Point). p.y) j.0) a.1;
        z1_in = level _ _ (ap (λ (p : Point). p.z) j.0) a.2 a.3;
        x2_in = small _ _ (ap (λ (p : Point). p.x) j.1) b.0;
        y2_in = small _ _ (ap (λ (p : Point). p.y) j.1) b.1;
        z2_in = level _ _ (ap (λ (p : Point). p.z) j.1) b.2 b.3;
      }

  pub printable_of : (answer : Answer) → Kept joint sheet (start_of row) (end_of row) answer → Printable row answer
  printable_of (checked r) kept =
      let s = kept.verdict r refl in
      (shown_on_map r s, piece_small _ _ _ r s.promise s.relation)
  printable_of (refused n) kept = tt
  printable_of (taken n) kept = tt
