-- What each operation has to show of what it returns, from its equation alone.
use Rattle.std.proofs.Common.{◌≡◌, ◌<◌, ℤ, pos, ◌+ℤ◌, ◌*ℤ◌, neg_ℤ, ◌≤ℤ◌, sym, ◌∙◌, ap₂, subst, w64, SFits}
use lib.Signed.{mag}
use Rattle.std.specs.Int.{int_min, int_max}
use Rattle.integer.proofs.Machine.{stored, stored_is, kept}
use Rattle.leg.specs.Places.{OnPiece}
use Rattle.affine.specs.declared.Form.{Form}
use Rattle.affine.specs.Forms.{opposite_of, product_of, low_end, high_end, lesser_of, greater_of}
use Rattle.affine.specs.Holding.{Holds}
use Rattle.affine.proofs.Ends.{product_kept}
use Rattle.affine.proofs.Holding.{holds_opposite, product_holds, above_low, below_high}
use Rattle.affine.proofs.Choosing.{EndsOf, holds_lesser, holds_greater, lesser_ends, greater_ends}

-- a form that is the same holds the same
pub held : {m r p q n d : ℤ} {w u : Form} → w ≡ u → Holds m r p q u n d → Holds m r p q w n d
held {m} {r} {p} {q} {n} {d} e h = subst (λ (x : Form). Holds m r p q x n d) (sym e) h

pub opposite_held : {w : Form} (u : Form) → w ≡ opposite_of u → (m r p q n d : ℤ) → Holds m r p q u n d → Holds m r p q w (neg_ℤ n) d
opposite_held u e m r p q n d h = held e (holds_opposite m r p q u n d h)

pub product_result : {w u v : Form} → w ≡ product_of u v → record {
  value : w ≡ product_of u v;
  kept : pos 0 ≤ℤ u.u2 → pos 0 ≤ℤ v.u2 → pos 0 ≤ℤ w.u2;
  holds : (m r p q n d k e : ℤ) → OnPiece m r p q → Holds m r p q u n d → Holds m r p q v k e → Holds m r p q w (n *ℤ k) (d *ℤ e);
}
product_result {u} {v} e = record {
  value = e;
  kept = λ h g. subst (λ (x : Form). pos 0 ≤ℤ x.u2) (sym e) (product_kept u v h g);
  holds = λ m r p q n d k b at h g. held e (product_holds m r p q at u v n d k b h g);
}

pub low_below : {e : ℤ} (u : Form) → e ≡ low_end u → (m r p q n d : ℤ) → OnPiece m r p q → Holds m r p q u n d → (e *ℤ d) ≤ℤ n
low_below u e m r p q n d at h = subst (λ (x : ℤ). (x *ℤ d) ≤ℤ n) (sym e) (above_low m r p q at u n d h)

pub high_above : {e : ℤ} (u : Form) → e ≡ high_end u → (m r p q n d : ℤ) → OnPiece m r p q → Holds m r p q u n d → n ≤ℤ (e *ℤ d)
high_above u e m r p q n d at h = subst (λ (x : ℤ). n ≤ℤ (x *ℤ d)) (sym e) (below_high m r p q at u n d h)

-- ---- the lesser and the greater

-- what was picked of two ends, as they were answered and passed on
pub picked : (pick : ℤ → ℤ → ℤ) {x y z a b : ℤ} → mag z < 9223372036854775808 → z ≡ pick (stored x) (stored y) → x ≡ a → SFits w64 a → y ≡ b → SFits w64 b → stored z ≡ pick a b
picked pick ok e x a y b = kept ok ∙ e ∙ ap₂ pick (stored_is x a) (stored_is y b)

abbrev Shown : (ℤ → ℤ → ℤ) → (w chosen u v : Form) → Type 0
Shown pick w chosen u v = record {
  value : w ≡ chosen;
  kept : pos 0 ≤ℤ u.u2 → pos 0 ≤ℤ v.u2 → pos 0 ≤ℤ w.u2;
  low : pos 0 ≤ℤ u.u2 → pos 0 ≤ℤ v.u2 → low_end w ≡ pick (low_end u) (low_end v);
  high : pos 0 ≤ℤ u.u2 → pos 0 ≤ℤ v.u2 → high_end w ≤ℤ (pick (high_end u) (high_end v) +ℤ pos 1);
  holds : (m r p q n k d : ℤ) → OnPiece m r p q → Holds m r p q u n d → Holds m r p q v k d → Holds m r p q w (pick n k) d;
}

chosen_result : (pick : ℤ → ℤ → ℤ) (w chosen u v : Form) → (pos 0 ≤ℤ u.u2 → pos 0 ≤ℤ v.u2 → EndsOf pick u v chosen) →
    ((m r p q : ℤ) → OnPiece m r p q → (n k d : ℤ) → Holds m r p q u n d → Holds m r p q v k d → Holds m r p q chosen (pick n k) d) → w ≡ chosen → Shown pick w chosen u v
chosen_result pick w chosen u v ends holds e = record {
  value = e;
  kept = λ h g. subst (λ (x : Form). pos 0 ≤ℤ x.u2) (sym e) (ends h g).kept;
  low = λ h g. subst (λ (x : Form). low_end x ≡ pick (low_end u) (low_end v)) (sym e) (ends h g).low;
  high = λ h g. subst (λ (x : Form). high_end x ≤ℤ (pick (high_end u) (high_end v) +ℤ pos 1)) (sym e) (ends h g).high;
  holds = λ m r p q n k d at h g. held e (holds m r p q at n k d h g);
}

pub lesser_result : (u v : Form) {w : Form} → w ≡ lesser_of u v → Shown int_min w (lesser_of u v) u v
lesser_result u v {w} = chosen_result int_min w (lesser_of u v) u v (lesser_ends u v) (λ m r p q at n k d h g. holds_lesser m r p q at u v n k d h g)

pub greater_result : (u v : Form) {w : Form} → w ≡ greater_of u v → Shown int_max w (greater_of u v) u v
greater_result u v {w} = chosen_result int_max w (greater_of u v) u v (greater_ends u v) (λ m r p q at n k d h g. holds_greater m r p q at u v n k d h g)
