-- The ground by the coefficients that were read is the surface of the cell.
use Rattle.std.proofs.Common.{◌≡◌, ℕ, suc, List, ℤ, pos, ◌+ℤ◌, ◌*ℤ◌, refl, ◌∙◌}
use Rattle.integer.proofs.Ring.{ring, ◌:+◌, ◌:-◌, ◌:*◌, con, ◌:=◌}
use Rattle.affine.specs.declared.Form.{Form}
use Rattle.affine.specs.Forms.{sum_of, scaled_by, shifted_by, product_of}
use Rattle.lattice.specs.Terrain.{surface, surface_form}
use Rattle.terrain.specs.declared.cell.Cell.{Cell}
use Rattle.terrain.specs.declared.cell.Spot.{Spot}
use Rattle.integer.specs.Numbers.{Within}
use Rattle.integer.proofs.Machine.{Is, stored, is, is_numeral, is_stored, is_sum, is_product}
use Rattle.terrain.specs.Rows.{heights_of}
use Rattle.terrain.specs.Moves.{OfCell, ground_from, form_of_ground}

module _ (hs : List ℤ) (i j : ℕ) (cell : Cell) (of : OfCell hs i j cell) where
  pub ground_is_surface : (f g : ℤ) → ground_from cell f g ≡ surface (heights_of hs) i j f g (pos 1)
  ground_is_surface f g =
      (λ t. pos 68719476736 *ℤ of.base t +ℤ pos 262144 *ℤ (of.east t *ℤ f) +ℤ pos 262144 *ℤ (of.north t *ℤ g) +ℤ of.twist t *ℤ f *ℤ g)
      ∙ ring 6 (λ a b c d f g.
      con (pos 68719476736) :* a :+ con (pos 262144) :* ((b :- a) :* f) :+ con (pos 262144) :* ((c :- a) :* g) :+ (a :- b :- c :+ d) :* f :* g
      := con (pos 68719476736) :* a :* (con (pos 1) :* con (pos 1)) :+ con (pos 262144) :* (b :- a) :* f :* con (pos 1) :+ con (pos 262144) :* (c :- a) :* g :* con (pos 1) :+ (a :- b :- c :+ d) :* f :* g) refl
      (heights_of hs i j) (heights_of hs (suc i) j) (heights_of hs i (suc j)) (heights_of hs (suc i) (suc j)) f g

  pub ground_form_is : (f g : Form) → form_of_ground cell f g ≡ surface_form (heights_of hs) i j f g
  ground_form_is f g =
      λ t. shifted_by (pos 68719476736 *ℤ of.base t) (sum_of (sum_of (scaled_by (pos 262144 *ℤ of.east t) f) (scaled_by (pos 262144 *ℤ of.north t) g)) (scaled_by (of.twist t) (product_of f g)))

-- ---- the ground as the code makes it

-- 2^18 times the product of a slope and a depth
pub slope_is : {e f : ℤ} → Within e (pos 600) → Within f (pos 262144) → Is (pos 262144 *ℤ stored (stored e *ℤ stored f)) (pos 262144 *ℤ (e *ℤ f)) 41231686041600
slope_is v w = is_product (is_numeral 262144) (is_stored (is_product (is_stored (is v) tt) (is_stored (is w) tt)) tt)

pub bend_is : {e f : ℤ} → Within e (pos 1200) → Within f (pos 262144) → Is (stored e *ℤ stored f) (e *ℤ f) 314572800
bend_is v w = is_product (is_stored (is v) tt) (is_stored (is w) tt)

pub twist_is : {e f g : ℤ} → Within e (pos 1200) → Within f (pos 262144) → Within g (pos 262144) → Is (stored (stored e *ℤ stored f) *ℤ stored g) (e *ℤ f *ℤ g) 82463372083200
twist_is u v w = is_product (is_stored (bend_is u v) tt) (is_stored (is w) tt)

module _ (cell : Cell) (x : Spot) where
  pub part_is : Is (stored (pos 68719476736 *ℤ stored cell.base) +ℤ stored (pos 262144 *ℤ stored (stored cell.east *ℤ stored x.depth)))
      (pos 68719476736 *ℤ cell.base +ℤ pos 262144 *ℤ (cell.east *ℤ x.depth)) 61847529062400
  part_is = is_sum (is_stored (is_product (is_numeral 68719476736) (is_stored (is cell.base_small) tt)) tt) (is_stored (slope_is cell.east_small x.inside) tt)

  pub ground_is : (y : Spot) →
      Is (stored (stored (stored (pos 68719476736 *ℤ stored cell.base) +ℤ stored (pos 262144 *ℤ stored (stored cell.east *ℤ stored x.depth)))
      +ℤ stored (pos 262144 *ℤ stored (stored cell.north *ℤ stored y.depth)))
      +ℤ stored (stored (stored cell.twist *ℤ stored x.depth) *ℤ stored y.depth))
      (ground_from cell x.depth y.depth) 185542587187200
  ground_is y =
      is_sum (is_stored (is_sum (is_stored part_is tt) (is_stored (slope_is cell.north_small y.inside) tt)) tt) (is_stored (twist_is cell.twist_small x.inside y.inside) tt)
