-- Level legs over flat ground.
use Rattle.std.proofs.Common.{◌≡◌, ℕ, suc, ◌<◌, ℤ, pos, ◌+ℤ◌, ◌-ℤ◌, ◌*ℤ◌, ◌≤ℤ◌, sym, refl, ◌∙◌, subst, arith}
use Rattle.integer.proofs.Ring.{ring, ◌:+◌, ◌:-◌, ◌:*◌, con, ◌:=◌}
use Rattle.leg.specs.declared.shapes.Leg.{Leg}
use Rattle.lattice.specs.Terrain.{cell_x, cell_y, into_x, into_y, value}
use Rattle.lattice.specs.Meaning.{WorkedTerrain}
use Rattle.lattice.proofs.Places.{cell_on_lattice}

-- the formula of a value, of its six numbers that are heights
abbrev formula : (p q f g a b z00 z10 z01 z11 : ℤ) → ℤ
formula p q f g a b z00 z10 z01 z11 =
    pos 16777216 *ℤ (pos 4096 *ℤ a *ℤ q +ℤ (b -ℤ a) *ℤ p) *ℤ q -ℤ
    (pos 68719476736 *ℤ z00 *ℤ (q *ℤ q)
    +ℤ pos 262144 *ℤ (z10 -ℤ z00) *ℤ f *ℤ q
    +ℤ pos 262144 *ℤ (z01 -ℤ z00) *ℤ g *ℤ q
    +ℤ (z00 -ℤ z10 -ℤ z01 +ℤ z11) *ℤ f *ℤ g)

-- all four heights are c, and both ends of the leg at z: 2^36 (z − c) q²
level : (p q f g c z : ℤ) → formula p q f g z z c c c c ≡ pos 68719476736 *ℤ ((z -ℤ c) *ℤ (q *ℤ q))
level =
    ring 6 (λ p q f g c z.
    con (pos 16777216) :* (con (pos 4096) :* z :* q :+ (z :- z) :* p) :* q :-
    (con (pos 68719476736) :* c :* (q :* q) :+ con (pos 262144) :* (c :- c) :* f :* q :+ con (pos 262144) :* (c :- c) :* g :* q :+ (c :- c :- c :+ c) :* f :* g)
    := con (pos 68719476736) :* ((z :- c) :* (q :* q))) refl

module _ (h : ℕ → ℕ → ℤ) (c : ℤ) (flat : (i j : ℕ) → i < 129 → j < 129 → h i j ≡ c) (leg : Leg) (z : ℤ) (first : leg.start.z ≡ z) (last : leg.end.z ≡ z) where
  pub flat_value : (p q : ℤ) → value h leg p q ≡ pos 68719476736 *ℤ ((z -ℤ c) *ℤ (q *ℤ q))
  unfolding value
  flat_value p q =
      (λ t. formula p q (into_x leg i p q) (into_y leg j p q) (first t) (last t) (flat i j (below i<) (below j<) t) (flat (suc i) j (next i<) (below j<) t) (flat i (suc j) (below i<) (next j<) t) (flat (suc i) (suc j) (next i<) (next j<) t))
      ∙ level p q (into_x leg i p q) (into_y leg j p q) c z
    where
      i : ℕ
      i = cell_x leg p q

      j : ℕ
      j = cell_y leg p q

      i< : i < 128
      i< = cell_on_lattice _ _

      j< : j < 128
      j< = cell_on_lattice _ _

      below : {n : ℕ} → n < 128 → n < 129
      below {n} k = omega arith

      next : {n : ℕ} → n < 128 → suc n < 129
      next {n} k = omega arith

pub worked_terrain : WorkedTerrain
worked_terrain = record {
  above = λ h flat leg first last p q.
      flat_value h (pos 10) flat leg (pos 11) first last p q
      ∙ ring 1 (λ q. con (pos 68719476736) :* ((con (pos 11) :- con (pos 10)) :* (q :* q)) := con (pos 68719476736) :* (q :* q)) refl q;
  inside = λ h flat leg first last. subst (λ (v : ℤ). v ≤ℤ pos 0) (sym (flat_value h (pos 10) flat leg (pos 10) first last (pos 0) (pos 1))) (record { le = tt });
}
