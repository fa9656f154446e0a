-- Laws of the one text that works through a table, in any algebra.
use Rattle.std.specs.Prelude.{◌≡◌, ℕ, zero, suc, ◌+◌, ◌<◌, Bool, true, false, cond, List, [], ◌∷◌, ◌++◌, length, ℤ, pos, negsuc, slice_index_or, unsigned_abs}
use Rattle.std.proofs.Math.Path.{refl, sym, ap}
use Rattle.std.proofs.Common.{ap₂, subst, subst₂, ◌∙◌}
use Rattle.std.proofs.Math.Nat.{add-zero, zero-add, add_assoc, add_comm, le-add_right, le_of_suc-le-suc, not-suc-le-zero, lt_of_lt_of_le, lt_trans, lt-suc_self}
use Rattle.std.proofs.Math.Numerals.{suc-eq-add-one, lt-add-one}
use Rattle.std.proofs.Math.Dec.{ltb→lt}
use Rattle.std.proofs.Math.ListN.{length-append, get_or-append}
use Rattle.std.proofs.Math.Seq.{get_or-append_seam}
use Rattle.nodes.specs.declared.node.Node.{Node}
use Rattle.nodes.specs.declared.node.Shape.{Shape}
use Rattle.nodes.specs.declared.node.Shape.TheVariants.{Quadric, Sum, Union, Common, Outside}
use Rattle.nodes.specs.Tables.{Algebra, equals, shape_of, combined, given, at, work, results, result_of, Earlier}
use Rattle.nodes.specs.Formed.{InRange, Refers, Keeps, WellFormed, no_node}

-- ---- what one node gives

-- it is the same where the nodes before it give the same
pub same_look : {A : Type 0} (al : Algebra A) (look look' : ℕ → A) (i : ℕ) → ((k : ℕ) → k < i → look k ≡ look' k) → (node : Node) (shape : Shape) → Earlier i shape →
    combined al look node shape ≡ combined al look' node shape
same_look al look look' i same node Quadric e = refl
same_look al look look' i same node (Sum a b) e = ap₂ al.sum (same a e.0) (same b e.1)
same_look al look look' i same node (Union a b) e = ap₂ al.lesser (same a e.0) (same b e.1)
same_look al look look' i same node (Common a b) e = ap₂ al.greater (same a e.0) (same b e.1)
same_look al look look' i same node (Outside a) e = ap al.opposite (same a e)

-- ---- the table

module _ {A : Type 0} (al : Algebra A) where
  -- later nodes leave what is there
  pub keeps : (done : List A) (nodes : List Node) (i : ℕ) → i < length done → at al (work al done nodes) i ≡ at al done i
  unfolding work
  keeps done [] i i< = refl
  keeps done (node ∷ rest) i i< =
      let longer : length (done ++ (given al (at al done) node ∷ [])) ≡ length done + 1 = length-append done (given al (at al done) node ∷ []) in
      keeps (done ++ (given al (at al done) node ∷ [])) rest i (subst (λ (n : ℕ). i < n) (sym longer) (lt_of_lt_of_le i< (le-add_right (length done) 1)))
      ∙ get_or-append done (given al (at al done) node ∷ []) al.unknown i i<

  -- each result follows from its node and the results of the table
  follows : (done : List A) (nodes : List Node) (i : ℕ) → i < length nodes → Earlier (length done + i) (shape_of (slice_index_or nodes i no_node)) →
      at al (work al done nodes) (length done + i) ≡ given al (at al (work al done nodes)) (slice_index_or nodes i no_node)
  unfolding work
  follows done [] i i< e = absurd (not-suc-le-zero i<)
  follows done (node ∷ rest) zero i< e =
      let more : List A = done ++ (given al (at al done) node ∷ []) in
      let longer : length (done ++ (given al (at al done) node ∷ [])) ≡ length done + 1 = length-append done (given al (at al done) node ∷ []) in
      let last : length done + 0 ≡ length done = add-zero (length done) in
      ap (at al (work al more rest)) last
      ∙ keeps more rest (length done) (subst (λ (n : ℕ). length done < n) (sym longer) (lt-add-one (length done)))
      ∙ get_or-append_seam done (given al (at al done) node) [] al.unknown
      ∙ same_look al (at al done) (at al (work al more rest)) (length done)
      (λ k k<. sym (keeps more rest k (subst (λ (n : ℕ). k < n) (sym longer) (lt_of_lt_of_le k< (le-add_right (length done) 1))) ∙ get_or-append done (given al (at al done) node ∷ []) al.unknown k k<))
      node (shape_of node) (subst (λ (n : ℕ). Earlier n (shape_of node)) last e)
  follows done (node ∷ rest) (suc i) i< e =
      let more : List A = done ++ (given al (at al done) node ∷ []) in
      let longer : length (done ++ (given al (at al done) node ∷ [])) ≡ length done + 1 = length-append done (given al (at al done) node ∷ []) in
      let place : length (done ++ (given al (at al done) node ∷ [])) + i ≡ length done + suc i =
      ap (λ (n : ℕ). n + i) longer ∙ add_assoc (length done) 1 i ∙ ap (λ (n : ℕ). length done + n) (add_comm 1 i ∙ sym (suc-eq-add-one i)) in
      ap (at al (work al more rest)) (sym place)
      ∙ follows more rest i (le_of_suc-le-suc i<) (subst (λ (n : ℕ). Earlier n (shape_of (slice_index_or rest i no_node))) (sym place) e)

  pub result_follows : (nodes : List Node) (i : ℕ) → i < length nodes → Earlier i (shape_of (slice_index_or nodes i no_node)) →
      result_of al nodes i ≡ given al (result_of al nodes) (slice_index_or nodes i no_node)
  result_follows nodes i i< e =
      let place : 0 + i ≡ i = zero-add i in
      ap (result_of al nodes) (sym place) ∙ follows [] nodes i i< (subst (λ (n : ℕ). Earlier n (shape_of (slice_index_or nodes i no_node))) (sym place) e)

  -- one more node at the end adds its result and leaves the others
  work_append : (done : List A) (nodes : List Node) (node : Node) → work al done (nodes ++ (node ∷ [])) ≡ work al done nodes ++ (given al (at al (work al done nodes)) node ∷ [])
  unfolding work
  work_append done [] node = refl
  work_append done (first ∷ rest) node = work_append (done ++ (given al (at al done) first ∷ [])) rest node

  pub results_append : (nodes : List Node) (node : Node) → results al (nodes ++ (node ∷ [])) ≡ results al nodes ++ (given al (result_of al nodes) node ∷ [])
  results_append nodes node = work_append [] nodes node

-- ---- two algebras related by what their operations keep

pub record Related {A B : Type 0} (al : Algebra A) (bl : Algebra B) (R : A → B → Type 0) : Type 0 where
  pub quadric : (node : Node) → InRange node → R (al.quadric node) (bl.quadric node)
  pub sum : (x y : A) (x' y' : B) → R x x' → R y y' → R (al.sum x y) (bl.sum x' y')
  pub lesser : (x y : A) (x' y' : B) → R x x' → R y y' → R (al.lesser x y) (bl.lesser x' y')
  pub greater : (x y : A) (x' y' : B) → R x x' → R y y' → R (al.greater x y) (bl.greater x' y')
  pub opposite : (x : A) (x' : B) → R x x' → R (al.opposite x) (bl.opposite x')

-- the number of an earlier node
pub refers_under : {i : ℕ} (z : ℤ) → Refers i z → unsigned_abs z < i
refers_under {i} (pos n) r = ltb→lt n i r.to.lt
refers_under (negsuc n) r = absurd r.from.le

-- a node names earlier nodes only, whichever kind it has
keeps_earlier : (i : ℕ) (node : Node) (one two three four : Bool) →
    let shape : Shape = cond one Quadric (cond two (Sum (unsigned_abs node.a) (unsigned_abs node.b)) (cond three (Union (unsigned_abs node.a) (unsigned_abs node.b))
    (cond four (Common (unsigned_abs node.a) (unsigned_abs node.b)) (Outside (unsigned_abs node.a))))) in
    Keeps i node shape → Earlier i shape
keeps_earlier i node true two three four k = tt
keeps_earlier i node false true three four k = (refers_under node.a k.0, refers_under node.b k.1)
keeps_earlier i node false false true four k = (refers_under node.a k.0, refers_under node.b k.1)
keeps_earlier i node false false false true k = (refers_under node.a k.0, refers_under node.b k.1)
keeps_earlier i node false false false false k = refers_under node.a k.0

pub names_earlier : (i : ℕ) (node : Node) → Keeps i node (shape_of node) → Earlier i (shape_of node)
names_earlier i node keeps = keeps_earlier i node (equals node.kind 1) (equals node.kind 2) (equals node.kind 3) (equals node.kind 4) keeps

module _ (nodes : List Node) (formed : WellFormed nodes) where
  pub earlier : (i : ℕ) → i < length nodes → Earlier i (shape_of (slice_index_or nodes i no_node))
  earlier i i< = names_earlier i (slice_index_or nodes i no_node) (formed.keeps i i<)

  module _ {A B : Type 0} (al : Algebra A) (bl : Algebra B) (R : A → B → Type 0) (related : Related al bl R) where
    related_given : (look : ℕ → A) (look' : ℕ → B) (i : ℕ) → ((k : ℕ) → k < i → R (look k) (look' k)) → (node : Node) (shape : Shape) → Earlier i shape → Keeps i node shape →
        R (combined al look node shape) (combined bl look' node shape)
    related_given look look' i below node Quadric e k = related.quadric node k.2
    related_given look look' i below node (Sum a b) e k = related.sum _ _ _ _ (below a e.0) (below b e.1)
    related_given look look' i below node (Union a b) e k = related.lesser _ _ _ _ (below a e.0) (below b e.1)
    related_given look look' i below node (Common a b) e k = related.greater _ _ _ _ (below a e.0) (below b e.1)
    related_given look look' i below node (Outside a) e k = related.opposite _ _ (below a e)

    related_below : (n i : ℕ) → i < n → i < length nodes → R (result_of al nodes i) (result_of bl nodes i)
    related_below zero i i<n i< = absurd (not-suc-le-zero i<n)
    related_below (suc n) i i<n i< =
        subst₂ R (sym (result_follows al nodes i i< (earlier i i<))) (sym (result_follows bl nodes i i< (earlier i i<)))
        (related_given (result_of al nodes) (result_of bl nodes) i (λ k k<. related_below n k (lt_of_lt_of_le k< (le_of_suc-le-suc i<n)) (lt_trans k< i<)) (slice_index_or nodes i no_node) (shape_of (slice_index_or nodes i no_node)) (earlier i i<) (formed.keeps i i<))

    -- then each node's results are related
    pub related_results : (i : ℕ) → i < length nodes → R (result_of al nodes i) (result_of bl nodes i)
    related_results i i< = related_below (suc i) i (lt-suc_self i) i<

-- ---- a map from one algebra to another

-- f carries each operation of the one to that of the other
pub record Homomorphism {A B : Type 0} (al : Algebra A) (bl : Algebra B) (f : A → B) : Type 0 where
  pub quadric : (node : Node) → f (al.quadric node) ≡ bl.quadric node
  pub sum : (x y : A) → f (al.sum x y) ≡ bl.sum (f x) (f y)
  pub lesser : (x y : A) → f (al.lesser x y) ≡ bl.lesser (f x) (f y)
  pub greater : (x y : A) → f (al.greater x y) ≡ bl.greater (f x) (f y)
  pub opposite : (x : A) → f (al.opposite x) ≡ bl.opposite (f x)

pub mapped_results : (nodes : List Node) → WellFormed nodes → {A B : Type 0} (al : Algebra A) (bl : Algebra B) (f : A → B) → Homomorphism al bl f → (i : ℕ) → i < length nodes → f (result_of al nodes i) ≡ result_of bl nodes i
mapped_results nodes formed {B} al bl f h =
    related_results nodes formed al bl (λ x (y : B). f x ≡ y)
    (record {
      quadric = λ node _. h.quadric node;
      sum = λ x y _ _ e g. h.sum x y ∙ ap₂ bl.sum e g;
      lesser = λ x y _ _ e g. h.lesser x y ∙ ap₂ bl.lesser e g;
      greater = λ x y _ _ e g. h.greater x y ∙ ap₂ bl.greater e g;
      opposite = λ x _ e. h.opposite x ∙ ap bl.opposite e;
    })
