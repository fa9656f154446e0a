-- What the tests of a new node say.
use Rattle.std.proofs.Common.{◌≡◌, ℕ, Bool, true, false, cond, ◌&&◌, List, [], ◌∷◌, ◌++◌, length, ℤ, pos, negsuc, neg_ℤ, ◌≤ℤ◌, ◌<ℤ◌, sym, refl, ap, subst, arith}
use lib.Signed.{le_z, lt_z}
use borrow.Author.Differences.{ints}
use Rattle.std.proofs.lemmas.Bool.{and_parts, and_from, both_ways, eqb-true}
use Rattle.integer.specs.Numbers.{Within}
use Rattle.nodes.specs.declared.node.Node.{Node}
use Rattle.nodes.specs.declared.node.Shape.{Shape}
use Rattle.nodes.specs.declared.node.Shape.TheVariants.{Quadric, Sum, Union, Common, Outside}
use Rattle.nodes.specs.Tables.{equals, shape_of}
use Rattle.nodes.specs.Formed.{InRange, NoQuadric, Refers, Known, Keeps, WellFormed, reach_bound}
use Rattle.nodes.specs.Validation.{between, known, refers, references, zeros, no_quadric, unused, all_between, centre_lies_on_map, quadric_lies_in_range, in_range, new_reach, node_refusal}
use Rattle.nodes.proofs.Growing.{last_known, last_keeps, last_reach}

zero_is : (z : ℤ) → equals z 0 ≡ true → z ≡ pos 0
zero_is (pos k) t = ap pos (eqb-true k 0 t)
zero_is (negsuc k) t = absurd (both_ways false refl t)

between_parts : (low z high : ℤ) → between low z high ≡ true → (low ≤ℤ z) × (z ≤ℤ high)
between_parts low z high t = let p = and_parts (le_z low z) (le_z z high) t in (omega (arith, ints), omega (arith, ints))

within_is : (low z high : ℤ) → neg_ℤ high ≡ low → between low z high ≡ true → Within z high
within_is low z high e t = let p = between_parts low z high t in record { above = subst (λ (x : ℤ). x ≤ℤ z) (sym e) p.0; below = p.1 }

each_is : (low high x y z : ℤ) → neg_ℤ high ≡ low → all_between low high x y z ≡ true → Within x high × Within y high × Within z high
each_is low high x y z e t =
    let p = and_parts _ (between low z high) t in let q = and_parts (between low x high) (between low y high) p.0 in
    (within_is low x high e q.0, within_is low y high e q.1, within_is low z high e p.1)

zeros_are : (x y z : ℤ) → zeros x y z ≡ true → (x ≡ pos 0) × (y ≡ pos 0) × (z ≡ pos 0)
zeros_are x y z t = let p = and_parts (equals x 0) _ t in let q = and_parts (equals y 0) (equals z 0) p.1 in (zero_is x p.0, zero_is y q.0, zero_is z q.1)

pub known_is : (kind : ℤ) → known kind ≡ true → Known kind
known_is kind t = let p = between_parts (pos 1) kind (pos 5) t in record { from = p.0; to = p.1 }

refers_is : (n : ℕ) (z : ℤ) → refers n z ≡ true → Refers n z
refers_is n z t = let p = and_parts (le_z (pos 0) z) (lt_z z (pos n)) t in record { from = omega (arith, ints); to = omega (arith, ints) }

no_quadric_is : (node : Node) → no_quadric node ≡ true → NoQuadric node
no_quadric_is node t =
    let a = and_parts _ (equals node.k 0) t in
    let b = and_parts _ (zeros node.lx node.ly node.lz) a.0 in
    let c = and_parts (zeros node.px node.py node.pz) (zeros node.sx node.sy node.sz) b.0 in
    let p = zeros_are _ _ _ c.0 in let s = zeros_are _ _ _ c.1 in let l = zeros_are _ _ _ b.1 in
    record {
      px_zero = p.0;
      py_zero = p.1;
      pz_zero = p.2;
      sx_zero = s.0;
      sy_zero = s.1;
      sz_zero = s.2;
      lx_zero = l.0;
      ly_zero = l.1;
      lz_zero = l.2;
      k_zero = zero_is _ a.1;
    }

in_range_is : (node : Node) → quadric_lies_in_range node ≡ true → InRange node
in_range_is node t =
    let a = and_parts _ (between (negsuc 1073741823) node.k (pos 1073741824)) t in
    let b = and_parts _ (all_between (negsuc 4095) (pos 4096) node.lx node.ly node.lz) a.0 in
    let c = and_parts (centre_lies_on_map node) (all_between (negsuc 15) (pos 16) node.sx node.sy node.sz) b.0 in
    let p = and_parts _ (between (negsuc 15) node.pz (pos 660)) c.0 in
    let q = and_parts (between (negsuc 4095) node.px (pos 4096)) (between (negsuc 4095) node.py (pos 4096)) p.0 in
    let s = each_is _ _ _ _ _ refl c.1 in let l = each_is _ _ _ _ _ refl b.1 in let h = between_parts _ _ _ p.1 in
    record {
      px_in = within_is _ _ _ refl q.0;
      py_in = within_is _ _ _ refl q.1;
      pz_from = h.0;
      pz_to = h.1;
      sx_in = s.0;
      sy_in = s.1;
      sz_in = s.2;
      lx_in = l.0;
      ly_in = l.1;
      lz_in = l.2;
      k_in = within_is _ _ _ refl a.1;
    }

module _ (n : ℕ) (node : Node) where
  pair_keeps : (refers n node.a && refers n node.b) ≡ true → no_quadric node ≡ true → Refers n node.a × Refers n node.b × NoQuadric node
  pair_keeps r u = let p = and_parts (refers n node.a) (refers n node.b) r in (refers_is n node.a p.0, refers_is n node.b p.1, no_quadric_is node u)

  pub tests_keep : (shape : Shape) → references n node shape ≡ true → unused node shape ≡ true → in_range node shape ≡ true → Keeps n node shape
  tests_keep Quadric r u i = let p = and_parts (equals node.a 0) (equals node.b 0) u in (zero_is _ p.0, zero_is _ p.1, in_range_is node i)
  tests_keep (Sum a b) r u i = pair_keeps r u
  tests_keep (Union a b) r u i = pair_keeps r u
  tests_keep (Common a b) r u i = pair_keeps r u
  tests_keep (Outside a) r u i = let p = and_parts (equals node.b 0) (no_quadric node) u in (refers_is n node.a r, zero_is _ p.0, no_quadric_is node p.1)

-- where every test passes no refusal fits
pub none_fits : (a b c d e : Bool) → true ≡ a → true ≡ b → true ≡ c → true ≡ d → true ≡ e → ◌≡◌ {A = ℕ} (cond a (cond b (cond c (cond d (cond e 0 11) 10) 9) 8) 7) 0
none_fits a b c d e p q r s t = λ i. cond (sym p i) (cond (sym q i) (cond (sym r i) (cond (sym s i) (cond (sym t i) 0 11) 10) 9) 8) 7

-- not above the limit
pub not_above : (x limit : ℤ) → lt_z limit x ≡ false → x ≤ℤ limit
not_above x limit t = omega (arith, ints)

pub not_above_test : (x limit : ℤ) → lt_z limit x ≡ false → true ≡ le_z x limit
not_above_test x limit t = grind (arith, ints)

-- ---- what a node keeps passes the tests

le_test : (a b : ℤ) → a ≤ℤ b → le_z a b ≡ true
le_test a b h = grind (arith, ints)

lt_test : (a b : ℤ) → a <ℤ b → lt_z a b ≡ true
lt_test a b h = grind (arith, ints)

between_test : (low z high : ℤ) → low ≤ℤ z → z ≤ℤ high → between low z high ≡ true
between_test low z high h k = and_from (le_z low z) (le_z z high) (le_test low z h) (le_test z high k)

within_test : (low z high : ℤ) → neg_ℤ high ≡ low → Within z high → between low z high ≡ true
within_test low z high e w = between_test low z high (subst (λ (x : ℤ). x ≤ℤ z) e w.above) w.below

zero_test : (z : ℤ) → z ≡ pos 0 → equals z 0 ≡ true
zero_test z e = ap (λ (x : ℤ). equals x 0) e

zeros_test : (x y z : ℤ) → x ≡ pos 0 → y ≡ pos 0 → z ≡ pos 0 → zeros x y z ≡ true
zeros_test x y z e f g = and_from (equals x 0) (equals y 0 && equals z 0) (zero_test x e) (and_from (equals y 0) (equals z 0) (zero_test y f) (zero_test z g))

no_quadric_test : (node : Node) → NoQuadric node → no_quadric node ≡ true
no_quadric_test node n =
    and_from _ (equals node.k 0)
    (and_from _ (zeros node.lx node.ly node.lz)
    (and_from (zeros node.px node.py node.pz) (zeros node.sx node.sy node.sz)
    (zeros_test _ _ _ n.px_zero n.py_zero n.pz_zero) (zeros_test _ _ _ n.sx_zero n.sy_zero n.sz_zero))
    (zeros_test _ _ _ n.lx_zero n.ly_zero n.lz_zero))
    (zero_test _ n.k_zero)

each_test : (low high x y z : ℤ) → neg_ℤ high ≡ low → Within x high → Within y high → Within z high → all_between low high x y z ≡ true
each_test low high x y z e u v w =
    and_from _ (between low z high) (and_from (between low x high) (between low y high) (within_test low x high e u) (within_test low y high e v)) (within_test low z high e w)

in_range_test : (node : Node) → InRange node → quadric_lies_in_range node ≡ true
in_range_test node r =
    and_from _ (between (negsuc 1073741823) node.k (pos 1073741824))
    (and_from _ (all_between (negsuc 4095) (pos 4096) node.lx node.ly node.lz)
    (and_from (centre_lies_on_map node) (all_between (negsuc 15) (pos 16) node.sx node.sy node.sz)
    (and_from _ (between (negsuc 15) node.pz (pos 660))
    (and_from (between (negsuc 4095) node.px (pos 4096)) (between (negsuc 4095) node.py (pos 4096)) (within_test _ _ _ refl r.px_in) (within_test _ _ _ refl r.py_in))
    (between_test _ _ _ r.pz_from r.pz_to))
    (each_test _ _ _ _ _ refl r.sx_in r.sy_in r.sz_in))
    (each_test _ _ _ _ _ refl r.lx_in r.ly_in r.lz_in))
    (within_test _ _ _ refl r.k_in)

known_test : (kind : ℤ) → Known kind → known kind ≡ true
known_test kind k = between_test (pos 1) kind (pos 5) k.from k.to

refers_test : (n : ℕ) (z : ℤ) → Refers n z → refers n z ≡ true
refers_test n z r = and_from (le_z (pos 0) z) (lt_z z (pos n)) (le_test (pos 0) z r.from) (lt_test z (pos n) r.to)

record Passes (n : ℕ) (node : Node) (shape : Shape) : Type 0 where
  refer : references n node shape ≡ true
  rest : unused node shape ≡ true
  range : in_range node shape ≡ true

module _ (n : ℕ) (node : Node) where
  pair_test : Refers n node.a × Refers n node.b × NoQuadric node → (refers n node.a && refers n node.b) ≡ true
  pair_test k = and_from (refers n node.a) (refers n node.b) (refers_test n node.a k.0) (refers_test n node.b k.1)

  keeps_pass : (shape : Shape) → Keeps n node shape → Passes n node shape
  keeps_pass Quadric k = record { refer = refl; rest = and_from (equals node.a 0) (equals node.b 0) (zero_test _ k.0) (zero_test _ k.1); range = in_range_test node k.2 }
  keeps_pass (Sum a b) k = record { refer = pair_test k; rest = no_quadric_test node k.2; range = refl }
  keeps_pass (Union a b) k = record { refer = pair_test k; rest = no_quadric_test node k.2; range = refl }
  keeps_pass (Common a b) k = record { refer = pair_test k; rest = no_quadric_test node k.2; range = refl }
  keeps_pass (Outside a) k = record { refer = refers_test n node.a k.0; rest = and_from (equals node.b 0) (no_quadric node) (zero_test _ k.1) (no_quadric_test node k.2); range = refl }

-- a node that can follow the list is not refused
pub accepted : (nodes : List Node) (node : Node) → Known node.kind → Keeps (length nodes) node (shape_of node) → new_reach nodes node ≤ℤ reach_bound → node_refusal nodes node ≡ 0
accepted nodes node k keeps near =
    let passes = keeps_pass (length nodes) node (shape_of node) keeps in
    none_fits (known node.kind) (references (length nodes) node (shape_of node)) (unused node (shape_of node)) (in_range node (shape_of node)) (le_z (new_reach nodes node) reach_bound)
    (sym (known_test node.kind k)) (sym passes.refer) (sym passes.rest) (sym passes.range) (sym (le_test (new_reach nodes node) reach_bound near))

pub longer_accepted : (nodes : List Node) (node : Node) → WellFormed (nodes ++ (node ∷ [])) → node_refusal nodes node ≡ 0
longer_accepted nodes node longer = accepted nodes node (last_known nodes node longer) (last_keeps nodes node longer) (last_reach nodes node longer)
