-- One dimension: the line through heights whose neighbours differ by at most D rises by at most D from one place to another, per unit of distance.
-- It is stated for places in CLOSED cells, so it also says that two cells agree on their common border (the same place, distance 0).
use Rattle.std.proofs.Common.{◌≡◌, ℕ, zero, suc, ◌+◌, ◌-◌, ◌<◌, ◌≤◌, ℤ, pos, ◌+ℤ◌, ◌-ℤ◌, ◌*ℤ◌, neg_ℤ, ◌≤ℤ◌, sym, refl, ap, ◌∙◌, subst, ⊎_elim, arith}
use borrow.Author.Differences.{ints}
use Rattle.std.proofs.lemmas.Bool.{cases_lt}
use Rattle.integer.proofs.Absolute.{within_same, within_abs, within_sum, within_product, within_neg, abs_of, abs_neg}
use Rattle.integer.proofs.Order.{gap, sum≥0, product≥0, ≥0_same}
use Rattle.integer.proofs.Ring.{ring, ◌:+◌, ◌:-◌, ◌:*◌, con, neg, ◌:=◌}
use Rattle.integer.specs.Numbers.{Within, absℤ}
use Rattle.lattice.specs.Surface.{mix, into, InCell, along}

-- two moves in one direction
two_moves : (D x y z b c : ℤ) → Within (y -ℤ x) (D *ℤ absℤ b) → Within (z -ℤ y) (D *ℤ absℤ c) → pos 0 ≤ℤ b → pos 0 ≤ℤ c → Within (z -ℤ x) (D *ℤ absℤ (b +ℤ c))
two_moves D x y z b c first second b≥0 c≥0 =
    within_same (within_sum first second)
    (ring 3 (λ x y z. (y :- x) :+ (z :- y) := z :- x) refl x y z)
    (ring 3 (λ d b c. d :* b :+ d :* c := d :* (b :+ c)) refl D (absℤ b) (absℤ c)
    ∙ ap (λ (t : ℤ). D *ℤ t) (ap (λ (t : ℤ). t +ℤ absℤ c) (abs_of b≥0) ∙ ap (λ (t : ℤ). b +ℤ t) (abs_of c≥0) ∙ sym (abs_of (sum≥0 b≥0 c≥0))))

-- ---- the cell k further than cell i

abbrev ahead : ℕ → ℕ → ℕ
ahead zero i = i
ahead (suc k) i = suc (ahead k i)

ahead_is : (k i : ℕ) → ahead k i ≡ k + i
ahead_is zero i = omega arith
ahead_is (suc k) i = let h = ahead_is k i in omega arith

pos_suc : (i : ℕ) → pos (suc i) ≡ pos i +ℤ pos 1
pos_suc i = omega (arith, ints)

module _ (w : ℤ) (w≥0 : pos 0 ≤ℤ w) (h : ℕ → ℤ) (D : ℤ) (steps : (n : ℕ) → n < 128 → Within (h (suc n) -ℤ h n) D) where
  -- the border between cell n and the next
  border : ℕ → ℤ
  border n = w *ℤ pos (suc n)

  border_in : (n : ℕ) → into w n (border n) ≡ w
  unfolding border
  border_in n = subst (λ (s : ℤ). w *ℤ s -ℤ w *ℤ pos n ≡ w) (sym (pos_suc n)) (ring 2 (λ w c. w :* (c :+ con (pos 1)) :- w :* c := w) refl w (pos n))

  border_next : (n : ℕ) → into w (suc n) (border n) ≡ pos 0
  unfolding border
  border_next n = ring 1 (λ x. x :- x := con (pos 0)) refl (w *ℤ pos (suc n))

  border_in_cell : (n : ℕ) → InCell w n (border n)
  border_in_cell n = record {
    from = subst (λ (s : ℤ). pos 0 ≤ℤ s) (sym (border_in n)) w≥0;
    to = subst (λ (s : ℤ). s ≤ℤ w) (sym (border_in n)) (omega (arith, ints));
  }

  -- the two lines meet there
  lines_meet : (n : ℕ) → along w h (suc n) (border n) ≡ along w h n (border n)
  lines_meet n =
      ap (λ (f : ℤ). mix w (h (suc n)) (h (suc (suc n))) f) (border_next n)
      ∙ ring 4 (λ w a b c. (w :- con (pos 0)) :* b :+ con (pos 0) :* c := (w :- w) :* a :+ w :* b) refl w (h n) (h (suc n)) (h (suc (suc n)))
      ∙ sym (ap (λ (f : ℤ). mix w (h n) (h (suc n)) f) (border_in n))

  one_cell : (n : ℕ) → n < 128 → (u u' : ℤ) → Within (along w h n u' -ℤ along w h n u) (D *ℤ absℤ (u' -ℤ u))
  one_cell n lt u u' =
      within_same (within_product (steps n lt) (within_abs (u' -ℤ u)))
      (ring 6 (λ w c a b u u'. (b :- a) :* (u' :- u) := ((w :- (u' :- w :* c)) :* a :+ (u' :- w :* c) :* b) :- ((w :- (u :- w :* c)) :* a :+ (u :- w :* c) :* b)) refl
      w (pos n) (h n) (h (suc n)) u u')
      refl

  -- from cell i to the border behind the cell k further: not back
  towards : (k i : ℕ) (u : ℤ) → InCell w i u → pos 0 ≤ℤ (border (ahead k i) -ℤ u)
  unfolding border
  towards k i u at =
      ≥0_same (sum≥0 (product≥0 w≥0 (later k i)) (gap at.to))
      (ring 4 (λ w c s u. w :* (s :- c :- con (pos 1)) :+ (w :- (u :- w :* c)) := w :* s :- u) refl w (pos i) (pos (suc (ahead k i))) u)
    where
      later : (k i : ℕ) → pos 0 ≤ℤ (pos (suc (ahead k i)) -ℤ pos i -ℤ pos 1)
      later k i = let e = ahead_is k i in omega (arith, ints)

  climb : (k i : ℕ) (u u' : ℤ) → ahead k i < 128 → InCell w i u → InCell w (ahead k i) u' → Within (along w h (ahead k i) u' -ℤ along w h i u) (D *ℤ absℤ (u' -ℤ u))
  climb zero i u u' lt at at' = one_cell i lt u u'
  climb (suc k) i u u' lt at at' =
      let n : ℕ = ahead k i in
      within_same
      (two_moves D (along w h i u) (along w h (suc n) (border n)) (along w h (suc n) u') (border n -ℤ u) (u' -ℤ border n)
      (subst (λ (y : ℤ). Within (y -ℤ along w h i u) (D *ℤ absℤ (border n -ℤ u))) (sym (lines_meet n))
      (climb k i u (border n) (omega arith) at (border_in_cell n)))
      (one_cell (suc n) lt (border n) u')
      (towards k i u at)
      (unfold border in at'.from))
      refl
      (ap (λ (t : ℤ). D *ℤ absℤ t) (ring 3 (λ u b u'. (b :- u) :+ (u' :- b) := u' :- u) refl u (border n) u'))

  upwards : (i i' : ℕ) (u u' : ℤ) → i ≤ i' → i' < 128 → InCell w i u → InCell w i' u' → Within (along w h i' u' -ℤ along w h i u) (D *ℤ absℤ (u' -ℤ u))
  upwards i i' u u' le lt at at' =
      let e : ahead (i' - i) i ≡ i' = (let d = ahead_is (i' - i) i in omega arith) in
      subst (λ (n : ℕ). n < 128 → InCell w n u' → Within (along w h n u' -ℤ along w h i u) (D *ℤ absℤ (u' -ℤ u))) e
      (λ lt at'. climb (i' - i) i u u' lt at at') lt at'

  -- THE LEMMA: any two places, each by the line of a closed cell that it lies in
  pub lines_close : (i i' : ℕ) (u u' : ℤ) → i < 128 → i' < 128 → InCell w i u → InCell w i' u' → Within (along w h i' u' -ℤ along w h i u) (D *ℤ absℤ (u' -ℤ u))
  lines_close i i' u u' lt lt' at at' =
      ⊎_elim
      (λ back. within_same (within_neg (upwards i' i u' u (omega arith) lt at' at)) (flip (along w h i u) (along w h i' u')) (ap (λ (t : ℤ). D *ℤ t) (sym (abs_neg (u -ℤ u')) ∙ ap absℤ (flip u u'))))
      (λ on. upwards i i' u u' on lt' at at')
      (cases_lt i' i)
    where
      flip : (a b : ℤ) → neg_ℤ (a -ℤ b) ≡ b -ℤ a
      flip = ring 2 (λ a b. neg (a :- b) := b :- a) refl
