-- A decision procedure for identities of commutative rings over ℤ, by reflection.
-- An identity is written as two expressions (`Expr`). `norm` turns an expression into a polynomial in a fixed form: a list of terms, each a coefficient and
-- a sorted list of variables, in a fixed order of those lists, with no coefficient 0. Two expressions whose difference has the empty polynomial are equal at
-- every value of the variables (`ring`).
use Rattle.std.proofs.Common.{◌≡◌, ℕ, zero, suc, T, List, [], ◌∷◌, ℤ, pos, negsuc, ◌+ℤ◌, ◌-ℤ◌, ◌*ℤ◌, neg_ℤ, sym, refl, ap, ◌∙◌, subst, ap₂, arith, eqb→eq}
use Prim.Native.Nat.{compare, Ordering}
use lib.Dec.{compare_is_eq}
use lib.IntN.{*ℤ_comm, +ℤ_assoc, +ℤ_idl, +ℤ_idr, zero-*ℤ, *ℤ-zero, neg_ℤ-+ℤ, -ℤ-+ℤ_cancel}
use Rattle.integer.proofs.Laws.{*ℤ_distr_right, *ℤ_distr_left, *ℤ_assoc, *ℤ_neg_left, one_*ℤ, swap_middle, swap_factors, swap_first, swap_summands}

-- ---- expressions, and what they stand for

infixl 7 ◌:*◌
infixl 6 ◌:+◌ ◌:-◌
pub data Expr : Type 0 where
  var : ℕ → Expr
  con : ℤ → Expr
  ◌:+◌ : Expr → Expr → Expr
  ◌:-◌ : Expr → Expr → Expr
  ◌:*◌ : Expr → Expr → Expr
  neg : Expr → Expr

-- the value of the variable of number i
abbrev pub at : List ℤ → ℕ → ℤ
at [] i = pos 0
at (x ∷ xs) zero = x
at (x ∷ xs) (suc i) = at xs i

abbrev pub eval : List ℤ → Expr → ℤ
eval env (var i) = at env i
eval env (con c) = c
eval env (a :+ b) = eval env a +ℤ eval env b
eval env (a :- b) = eval env a -ℤ eval env b
eval env (a :* b) = eval env a *ℤ eval env b
eval env (neg a) = neg_ℤ (eval env a)

-- ---- polynomials, and what they stand for

-- a monomial: its variables, in ascending order, each as often as its power says
abbrev pub Mono : Type 0
Mono = List ℕ

pub data Poly : Type 0 where
  none : Poly
  term : Mono → ℤ → Poly → Poly

abbrev pub value : List ℤ → Mono → ℤ
value env [] = pos 1
value env (i ∷ m) = at env i *ℤ value env m

abbrev pub total : List ℤ → Poly → ℤ
total env none = pos 0
total env (term m c p) = c *ℤ value env m +ℤ total env p

-- one of three, by a comparison
abbrev pub choose : {A : Type 0} → Ordering → A → A → A → A
choose Ordering.lt x y z = x
choose Ordering.eq x y z = y
choose Ordering.gt x y z = z

-- the order of monomials: at the first place where they differ the lesser variable comes first, and the end comes last. A product keeps this order
-- (a `let` is computed only where it is read, and an argument always: so each side of a `choose` that calls itself stands in a `let`)
abbrev pub order : Mono → Mono → Ordering
order [] [] = Ordering.eq
order [] (j ∷ n) = Ordering.gt
order (i ∷ m) [] = Ordering.lt
order (i ∷ m) (j ∷ n) = let later = order m n in choose (compare i j) Ordering.lt later Ordering.gt

-- ---- the operations on them

-- one variable more in a monomial
abbrev pub put : ℕ → Mono → Mono
put i [] = i ∷ []
put i (j ∷ n) = let later = put i n in choose (compare i j) (i ∷ j ∷ n) (i ∷ j ∷ n) (j ∷ later)

abbrev pub times : Mono → Mono → Mono
times [] n = n
times (i ∷ m) n = put i (times m n)

-- a term in front of a polynomial, unless its coefficient is 0
abbrev pub front : Mono → ℤ → Poly → Poly
front m (pos zero) p = p
front m (pos (suc n)) p = term m (pos (suc n)) p
front m (negsuc n) p = term m (negsuc n) p

-- the sum of a term, of what `rest` adds, and of a polynomial
abbrev pub weave : Mono → ℤ → (Poly → Poly) → Poly → Poly
weave m c rest none = term m c (rest none)
weave m c rest (term n e q) =
    let first = term m c (rest (term n e q)) in
    let both = front m (c +ℤ e) (rest q) in
    let later = term n e (weave m c rest q) in
    choose (order m n) first both later

abbrev pub add : Poly → Poly → Poly
add none q = q
add (term m c p) q = weave m c (add p) q

abbrev pub scale : Mono → ℤ → Poly → Poly
scale m c none = none
scale m c (term n e q) = term (times m n) (c *ℤ e) (scale m c q)

abbrev pub multiply : Poly → Poly → Poly
multiply none q = none
multiply (term m c p) q = add (scale m c q) (multiply p q)

abbrev pub opposite : Poly → Poly
opposite none = none
opposite (term m c p) = term m (neg_ℤ c) (opposite p)

abbrev pub norm : Expr → Poly
norm (var i) = term (i ∷ []) (pos 1) none
norm (con c) = front [] c none
norm (a :+ b) = add (norm a) (norm b)
norm (a :- b) = add (norm a) (opposite (norm b))
norm (a :* b) = multiply (norm a) (norm b)
norm (neg a) = opposite (norm a)

-- ---- each operation means what it should

choose_ind : {A : Type 0} (o : Ordering) (x y z : A) (P : A → Type 0) → (o ≡ Ordering.lt → P x) → (o ≡ Ordering.eq → P y) → (o ≡ Ordering.gt → P z) → P (choose o x y z)
choose_ind Ordering.lt x y z P f g h = f refl
choose_ind Ordering.eq x y z P f g h = g refl
choose_ind Ordering.gt x y z P f g h = h refl

eq_of : (i j : ℕ) → compare i j ≡ Ordering.eq → i ≡ j
eq_of i j e = eqb→eq i j (subst (λ (o : Ordering). T (compare_is_eq o)) (sym e) tt)

order_same : (m n : Mono) → order m n ≡ Ordering.eq → m ≡ n
order_same [] [] e = refl
order_same [] (j ∷ n) e = let z : ◌≡◌ {A = ℕ} 0 1 = cc in absurd (omega arith)
order_same (i ∷ m) [] e = let z : ◌≡◌ {A = ℕ} 0 1 = cc in absurd (omega arith)
order_same (i ∷ m) (j ∷ n) e =
    choose_ind (compare i j) Ordering.lt (order m n) Ordering.gt (λ (o : Ordering). o ≡ Ordering.eq → (i ∷ m) ≡ (j ∷ n))
    (λ _ w. let z : ◌≡◌ {A = ℕ} 0 1 = cc in absurd (omega arith))
    (λ f w. ap₂ ◌∷◌ (eq_of i j f) (order_same m n w))
    (λ _ w. let z : ◌≡◌ {A = ℕ} 0 1 = cc in absurd (omega arith))
    e

module _ (env : List ℤ) where
  put_value : (i : ℕ) (n : Mono) → value env (put i n) ≡ at env i *ℤ value env n
  put_value i [] = refl
  put_value i (j ∷ n) =
      choose_ind (compare i j) (i ∷ j ∷ n) (i ∷ j ∷ n) (j ∷ put i n) (λ (k : Mono). value env k ≡ at env i *ℤ value env (j ∷ n))
      (λ _. refl) (λ _. refl)
      (λ _. ap (λ (x : ℤ). at env j *ℤ x) (put_value i n) ∙ swap_first (at env j) (at env i) (value env n))

  times_value : (m n : Mono) → value env (times m n) ≡ value env m *ℤ value env n
  times_value [] n = sym (one_*ℤ (value env n))
  times_value (i ∷ m) n =
      put_value i (times m n) ∙ ap (λ (x : ℤ). at env i *ℤ x) (times_value m n) ∙ sym (*ℤ_assoc (at env i) (value env m) (value env n))

  front_total : (m : Mono) (c : ℤ) (p : Poly) → total env (front m c p) ≡ c *ℤ value env m +ℤ total env p
  front_total m (pos zero) p = sym (ap (λ (x : ℤ). x +ℤ total env p) (zero-*ℤ (value env m)) ∙ +ℤ_idl (total env p))
  front_total m (pos (suc n)) p = refl
  front_total m (negsuc n) p = refl

  -- `rest` adds the number r
  Adds : (Poly → Poly) → ℤ → Type 0
  Adds rest r = (q : Poly) → total env (rest q) ≡ r +ℤ total env q

  weave_total : (m : Mono) (c : ℤ) (rest : Poly → Poly) (r : ℤ) → Adds rest r → (q : Poly) → total env (weave m c rest q) ≡ (c *ℤ value env m +ℤ r) +ℤ total env q
  unfolding Adds
  weave_total m c rest r adds none = ap (λ (x : ℤ). c *ℤ value env m +ℤ x) (adds none) ∙ sym (+ℤ_assoc (c *ℤ value env m) r (pos 0))
  weave_total m c rest r adds (term n e q) =
      choose_ind (order m n) (term m c (rest (term n e q))) (front m (c +ℤ e) (rest q)) (term n e (weave m c rest q))
      (λ (p : Poly). total env p ≡ (c *ℤ value env m +ℤ r) +ℤ total env (term n e q))
      (λ _. ap (λ (x : ℤ). c *ℤ value env m +ℤ x) (adds (term n e q)) ∙ sym (+ℤ_assoc (c *ℤ value env m) r (total env (term n e q))))
      (λ same. front_total m (c +ℤ e) (rest q) ∙ ap₂ ◌+ℤ◌ (*ℤ_distr_right c e (value env m)) (adds q)
      ∙ swap_middle (c *ℤ value env m) (e *ℤ value env m) r (total env q)
      ∙ ap (λ (k : Mono). (c *ℤ value env m +ℤ r) +ℤ (e *ℤ value env k +ℤ total env q)) (order_same m n same))
      (λ _. ap (λ (x : ℤ). e *ℤ value env n +ℤ x) (weave_total m c rest r adds q)
      ∙ swap_summands (e *ℤ value env n) (c *ℤ value env m +ℤ r) (total env q))

  add_total : (p q : Poly) → total env (add p q) ≡ total env p +ℤ total env q
  unfolding Adds
  add_total none q = sym (+ℤ_idl (total env q))
  add_total (term m c p) q = weave_total m c (add p) (total env p) (add_total p) q

  scale_total : (m : Mono) (c : ℤ) (q : Poly) → total env (scale m c q) ≡ (c *ℤ value env m) *ℤ total env q
  scale_total m c none = sym (*ℤ-zero (c *ℤ value env m))
  scale_total m c (term n e q) =
      ap₂ ◌+ℤ◌ (ap (λ (x : ℤ). (c *ℤ e) *ℤ x) (times_value m n) ∙ swap_factors c e (value env m) (value env n)) (scale_total m c q)
      ∙ sym (*ℤ_distr_left (c *ℤ value env m) (e *ℤ value env n) (total env q))

  multiply_total : (p q : Poly) → total env (multiply p q) ≡ total env p *ℤ total env q
  multiply_total none q = sym (zero-*ℤ (total env q))
  multiply_total (term m c p) q =
      add_total (scale m c q) (multiply p q) ∙ ap₂ ◌+ℤ◌ (scale_total m c q) (multiply_total p q)
      ∙ sym (*ℤ_distr_right (c *ℤ value env m) (total env p) (total env q))

  opposite_total : (p : Poly) → total env (opposite p) ≡ neg_ℤ (total env p)
  opposite_total none = refl
  opposite_total (term m c p) =
      ap₂ ◌+ℤ◌ (*ℤ_neg_left c (value env m)) (opposite_total p) ∙ sym (neg_ℤ-+ℤ (c *ℤ value env m) (total env p))

  -- an expression and its polynomial have the same value
  pub norm_sound : (e : Expr) → total env (norm e) ≡ eval env e
  norm_sound (var i) = +ℤ_idr (pos 1 *ℤ (at env i *ℤ pos 1)) ∙ one_*ℤ (at env i *ℤ pos 1) ∙ *ℤ_comm (at env i) (pos 1) ∙ one_*ℤ (at env i)
  norm_sound (con c) = front_total [] c none ∙ +ℤ_idr (c *ℤ pos 1) ∙ *ℤ_comm c (pos 1) ∙ one_*ℤ c
  norm_sound (a :+ b) = add_total (norm a) (norm b) ∙ ap₂ ◌+ℤ◌ (norm_sound a) (norm_sound b)
  norm_sound (a :- b) =
      add_total (norm a) (opposite (norm b)) ∙ ap₂ ◌+ℤ◌ (norm_sound a) (opposite_total (norm b) ∙ ap neg_ℤ (norm_sound b))
  norm_sound (a :* b) = multiply_total (norm a) (norm b) ∙ ap₂ ◌*ℤ◌ (norm_sound a) (norm_sound b)
  norm_sound (neg a) = opposite_total (norm a) ∙ ap neg_ℤ (norm_sound a)

-- ---- the test, and what it proves

zero_difference : (a b : ℤ) → a -ℤ b ≡ pos 0 → a ≡ b
zero_difference a b e = sym (-ℤ-+ℤ_cancel a b) ∙ ap (λ (x : ℤ). x +ℤ b) e ∙ +ℤ_idl b

-- two expressions whose difference normalises to the empty polynomial have the same value
pub equal_by_norm : (env : List ℤ) (l r : Expr) → norm (l :- r) ≡ none → eval env l ≡ eval env r
equal_by_norm env l r e = zero_difference (eval env l) (eval env r) (sym (norm_sound env (l :- r)) ∙ ap (total env) e)

-- ---- the way to call it: `ring n (λ x .. . l := r) refl` proves the identity for all values of the n variables

infix 5 ◌:=◌
pub data Identity : Type 0 where
  ◌:=◌ : Expr → Expr → Identity

-- an identity in n variables, as a function of them
abbrev pub Of : ℕ → Type 0
Of zero = Identity
Of (suc n) = Expr → Of n

-- that identity at the variables of the numbers i, i + 1, ..
abbrev pub from : (n : ℕ) → ℕ → Of n → Identity
from zero i f = f
from (suc n) i f = from n (suc i) (f (var i))

-- the left side less the right side: `ring` wants it to be `none`. Where an identity is wrong, antt's refusal of `refl` shows the terms that are left over
abbrev pub left_over : Identity → Poly
left_over (l := r) = norm (l :- r)

abbrev pub Says : List ℤ → Identity → Type 0
Says env (l := r) = eval env l ≡ eval env r

-- the claim for all values: `more` takes the values that are still to come
abbrev pub Always : ℕ → (List ℤ → List ℤ) → Identity → Type 0
Always zero more e = Says (more []) e
Always (suc n) more e = (x : ℤ) → Always n (λ (rest : List ℤ). more (x ∷ rest)) e

identity_holds : (env : List ℤ) (e : Identity) → left_over e ≡ none → Says env e
identity_holds env (l := r) t = equal_by_norm env l r t

always_holds : (n : ℕ) (more : List ℤ → List ℤ) (e : Identity) → left_over e ≡ none → Always n more e
always_holds zero more e t = identity_holds (more []) e t
always_holds (suc n) more e t = λ x. always_holds n (λ (rest : List ℤ). more (x ∷ rest)) e t

pub ring : (n : ℕ) (f : Of n) → left_over (from n 0 f) ≡ none → Always n (λ (rest : List ℤ). rest) (from n 0 f)
ring n f t = always_holds n (λ (rest : List ℤ). rest) (from n 0 f) t
