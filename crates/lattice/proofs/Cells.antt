-- Two dimensions: the surface through heights whose neighbours differ by at most D, at any two places, each by the surface of a CLOSED cell that it lies in.
use Rattle.std.proofs.Common.{◌≡◌, ℕ, suc, ◌<◌, ℤ, pos, ◌+ℤ◌, ◌-ℤ◌, ◌*ℤ◌, ◌≤ℤ◌, sym, refl, ap, ◌∙◌, subst, ap₂, arith}
use borrow.Author.Differences.{ints}
use Rattle.integer.proofs.Absolute.{under, over, within_same, within_self, within_sum, within_product}
use Rattle.integer.proofs.Order.{gap, product≥0, ≥0_same, by_gap}
use Rattle.integer.proofs.Ring.{ring, ◌:+◌, ◌:-◌, ◌:*◌, con, ◌:=◌}
use Rattle.integer.specs.Numbers.{Within, absℤ}
use Rattle.lattice.proofs.Lines.{lines_close}
use Rattle.lattice.specs.Surface.{mix, into, InCell, along, over_cell, Steps}

-- equal, where the difference is at most 0
pub same_by : {a b y : ℤ} → Within (a -ℤ b) y → y ≡ pos 0 → a ≡ b
same_by {a} {b} {y} w e = let h = under w in let k = over w in omega (arith, ints)

-- ---- a mix of two numbers lies between them

pub mix_within : (w x x' y f : ℤ) → pos 0 ≤ℤ f → f ≤ℤ w → Within x y → Within x' y → Within (mix w x x' f) (w *ℤ y)
mix_within w x x' y f f≥0 f≤w h h' =
    within_same (within_sum (within_product (within_self (gap f≤w)) h) (within_product (within_self f≥0) h')) refl
    (ring 3 (λ w y f. (w :- f) :* y :+ f :* y := w :* y) refl w y f)

mix_difference : (w a b a' b' f : ℤ) → mix w (a' -ℤ a) (b' -ℤ b) f ≡ mix w a' b' f -ℤ mix w a b f
mix_difference = ring 6 (λ w a b a' b' f. (w :- f) :* (a' :- a) :+ f :* (b' :- b) := ((w :- f) :* a' :+ f :* b') :- ((w :- f) :* a :+ f :* b)) refl

module _ (w : ℤ) (w≥0 : pos 0 ≤ℤ w) (h : ℕ → ℕ → ℤ) (D : ℤ) (steps : Steps h D) where
  -- a move along y, in the column at u of cell i
  move_north : (i j j' : ℕ) (u v v' : ℤ) → i < 128 → j < 128 → j' < 128 → InCell w i u → InCell w j v → InCell w j' v' →
      Within (over_cell w h i j' u v' -ℤ over_cell w h i j u v) (w *ℤ D *ℤ absℤ (v' -ℤ v))
  move_north i j j' u v v' i< j< j'< at-u at-v at-v' = lines_close w w≥0 (λ (n : ℕ). along w (λ (k : ℕ). h k n) i u) (w *ℤ D) column j j' v v' j< j'< at-v at-v'
    where
      column : (n : ℕ) → n < 128 → Within (along w (λ (k : ℕ). h k (suc n)) i u -ℤ along w (λ (k : ℕ). h k n) i u) (w *ℤ D)
      column n n< =
          within_same (mix_within w _ _ D (into w i u) at-u.from at-u.to (steps.north i n (omega arith) n<) (steps.north (suc i) n (omega arith) n<))
          (mix_difference w (h i n) (h (suc i) n) (h i (suc n)) (h (suc i) (suc n)) (into w i u)) refl

  -- a move along x, on the line at v of cell j
  move_east : (i i' j : ℕ) (u u' v : ℤ) → i < 128 → i' < 128 → j < 128 → InCell w i u → InCell w i' u' → InCell w j v →
      Within (over_cell w h i' j u' v -ℤ over_cell w h i j u v) (w *ℤ (D *ℤ absℤ (u' -ℤ u)))
  move_east i i' j u u' v i< i'< j< at-u at-u' at-v =
      within_same (mix_within w _ _ (D *ℤ absℤ (u' -ℤ u)) (into w j v) at-v.from at-v.to (on_row j (omega arith)) (on_row (suc j) (omega arith)))
      (mix_difference w (along w (λ (k : ℕ). h k j) i u) (along w (λ (k : ℕ). h k (suc j)) i u) (along w (λ (k : ℕ). h k j) i' u') (along w (λ (k : ℕ). h k (suc j)) i' u') (into w j v)) refl
    where
      on_row : (n : ℕ) → n < 129 → Within (along w (λ (k : ℕ). h k n) i' u' -ℤ along w (λ (k : ℕ). h k n) i u) (D *ℤ absℤ (u' -ℤ u))
      on_row n n< = lines_close w w≥0 (λ (k : ℕ). h k n) D (λ k k<. steps.east k n k< n<) i i' u u' i< i'< at-u at-u'

  -- THE LEMMA: north first, then east
  pub cells_close : (i j i' j' : ℕ) (u v u' v' : ℤ) → i < 128 → j < 128 → i' < 128 → j' < 128 →
      InCell w i u → InCell w j v → InCell w i' u' → InCell w j' v' →
      Within (over_cell w h i' j' u' v' -ℤ over_cell w h i j u v) (w *ℤ D *ℤ (absℤ (u' -ℤ u) +ℤ absℤ (v' -ℤ v)))
  cells_close i j i' j' u v u' v' i< j< i'< j'< at-u at-v at-u' at-v' =
      within_same (within_sum (move_east i i' j' u u' v' i< i'< j'< at-u at-u' at-v') (move_north i j j' u v v' i< j< j'< at-u at-v at-v'))
      (ring 3 (λ a b c. (c :- b) :+ (b :- a) := c :- a) refl (over_cell w h i j u v) (over_cell w h i j' u v') (over_cell w h i' j' u' v'))
      (ring 4 (λ w d a b. w :* (d :* a) :+ w :* d :* b := w :* d :* (a :+ b)) refl w D (absℤ (u' -ℤ u)) (absℤ (v' -ℤ v)))

  -- all closed cells that a place lies in give it the same height
  pub cells_agree : (i j i' j' : ℕ) (u v : ℤ) → i < 128 → j < 128 → i' < 128 → j' < 128 →
      InCell w i u → InCell w j v → InCell w i' u → InCell w j' v → over_cell w h i' j' u v ≡ over_cell w h i j u v
  cells_agree i j i' j' u v i< j< i'< j'< at-u at-v at-u' at-v' =
      same_by (cells_close i j i' j' u v u v i< j< i'< j'< at-u at-v at-u' at-v')
      (ap₂ (λ (a b : ℤ). w *ℤ D *ℤ (absℤ a +ℤ absℤ b)) (nothing u) (nothing v) ∙ ring 2 (λ w d. w :* d :* (con (pos 0) :+ con (pos 0)) := con (pos 0)) refl w D)
    where
      nothing : (a : ℤ) → a -ℤ a ≡ pos 0
      nothing = ring 1 (λ a. a :- a := con (pos 0)) refl

-- ---- a finer unit of length

pub in_finer : (w k : ℤ) (i : ℕ) (u : ℤ) → pos 0 ≤ℤ k → InCell w i u → InCell (w *ℤ k) i (u *ℤ k)
in_finer w k i u k≥0 at = record {
  from = ≥0_same (product≥0 at.from k≥0) (ring 4 (λ w k c u. (u :- w :* c) :* k := u :* k :- w :* k :* c) refl w k (pos i) u);
  to = by_gap _ _ _ (product≥0 (gap at.to) k≥0) (ring 4 (λ w k c u. (w :- (u :- w :* c)) :* k := w :* k :- (u :* k :- w :* k :* c)) refl w k (pos i) u);
}

pub over_finer : (w k : ℤ) (h : ℕ → ℕ → ℤ) (i j : ℕ) (u v : ℤ) → over_cell (w *ℤ k) h i j (u *ℤ k) (v *ℤ k) ≡ over_cell w h i j u v *ℤ (k *ℤ k)
over_finer w k h i j u v =
    ring 10 (λ w k ci cj u v a b c d.
    (w :* k :- (v :* k :- w :* k :* cj)) :* ((w :* k :- (u :* k :- w :* k :* ci)) :* a :+ (u :* k :- w :* k :* ci) :* b)
    :+ (v :* k :- w :* k :* cj) :* ((w :* k :- (u :* k :- w :* k :* ci)) :* c :+ (u :* k :- w :* k :* ci) :* d)
    := ((w :- (v :- w :* cj)) :* ((w :- (u :- w :* ci)) :* a :+ (u :- w :* ci) :* b)
    :+ (v :- w :* cj) :* ((w :- (u :- w :* ci)) :* c :+ (u :- w :* ci) :* d)) :* (k :* k)) refl
    w k (pos i) (pos j) u v (h i j) (h (suc i) j) (h i (suc j)) (h (suc i) (suc j))

-- the same lemma for two places that are measured in units of their own, w k = w' k'
pub cells_close_scaled : (w k w' k' : ℤ) → pos 0 ≤ℤ w → pos 0 ≤ℤ k → pos 0 ≤ℤ k' → w' *ℤ k' ≡ w *ℤ k → (h : ℕ → ℕ → ℤ) (D : ℤ) → Steps h D →
    (i j i' j' : ℕ) (u v u' v' : ℤ) → i < 128 → j < 128 → i' < 128 → j' < 128 →
    InCell w i u → InCell w j v → InCell w' i' u' → InCell w' j' v' →
    Within (over_cell w' h i' j' u' v' *ℤ (k' *ℤ k') -ℤ over_cell w h i j u v *ℤ (k *ℤ k))
    (w *ℤ k *ℤ D *ℤ (absℤ (u' *ℤ k' -ℤ u *ℤ k) +ℤ absℤ (v' *ℤ k' -ℤ v *ℤ k)))
cells_close_scaled w k w' k' w≥0 k≥0 k'≥0 one h D steps i j i' j' u v u' v' i< j< i'< j'< at-u at-v at-u' at-v' =
    within_same
    (cells_close (w *ℤ k) (product≥0 w≥0 k≥0) h D steps i j i' j' (u *ℤ k) (v *ℤ k) (u' *ℤ k') (v' *ℤ k') i< j< i'< j'<
    (in_finer w k i u k≥0 at-u) (in_finer w k j v k≥0 at-v)
    (subst (λ (x : ℤ). InCell x i' (u' *ℤ k')) one (in_finer w' k' i' u' k'≥0 at-u'))
    (subst (λ (x : ℤ). InCell x j' (v' *ℤ k')) one (in_finer w' k' j' v' k'≥0 at-v')))
    (ap₂ ◌-ℤ◌ (ap (λ (x : ℤ). over_cell x h i' j' (u' *ℤ k') (v' *ℤ k')) (sym one) ∙ over_finer w' k' h i' j' u' v') (over_finer w k h i j u v))
    refl

-- ---- between the heights

pub over_cell_within : (w : ℤ) (h : ℕ → ℕ → ℤ) (H : ℤ) → ((i j : ℕ) → i < 129 → j < 129 → Within (h i j) H) →
    (i j : ℕ) (u v : ℤ) → i < 128 → j < 128 → InCell w i u → InCell w j v → Within (over_cell w h i j u v) (w *ℤ (w *ℤ H))
over_cell_within w h H tall i j u v i< j< at-u at-v =
    mix_within w _ _ (w *ℤ H) (into w j v) at-v.from at-v.to
    (mix_within w _ _ H (into w i u) at-u.from at-u.to (tall i j (omega arith) (omega arith)) (tall (suc i) j (omega arith) (omega arith)))
    (mix_within w _ _ H (into w i u) at-u.from at-u.to (tall i (suc j) (omega arith) (omega arith)) (tall (suc i) (suc j) (omega arith) (omega arith)))
