-- One step of a loop over the table: the entries so far are the results of their nodes, and so is the next.
use Rattle.std.proofs.Common.{◌≡◌, ℕ, ◌+◌, ◌<◌, ◌≢◌, List, length, get_or, set, sym, ◌∙◌, subst, arith, get_or-set_other, get_or-set_same, below_more}
use Rattle.nodes.specs.declared.node.Node.{Node}
use Rattle.nodes.specs.declared.node.Shape.{Shape}
use Rattle.nodes.specs.declared.node.Shape.TheVariants.{Quadric, Sum, Union, Common, Outside}
use Rattle.nodes.specs.Tables.{Algebra, Earlier, shape_of, combined, at, result_of}
use Rattle.nodes.specs.Formed.{WellFormed, no_node}
use Rattle.nodes.specs.TablesLemmas.{same_look, result_follows, earlier}

-- a fact for each entry that a node of this shape names
abbrev pub Needed : {A : Type 0} → (A → Type 0) → (ℕ → A) → Shape → Type 0
Needed Small look Quadric = Unit {0}
Needed Small look (Sum a b) = Small (look a) × Small (look b)
Needed Small look (Union a b) = Small (look a) × Small (look b)
Needed Small look (Common a b) = Small (look a) × Small (look b)
Needed Small look (Outside a) = Small (look a)

module _ {A : Type 0} (al : Algebra A) (nodes : List Node) (formed : WellFormed nodes) (out : List A) (i : ℕ) (i< : i < length nodes)
    (so_far : (k : ℕ) → k < i → at al out k ≡ result_of al nodes k) where
  -- what the node gives from the entries is its result
  pub next_is : (shape : Shape) → shape ≡ shape_of (get_or nodes i no_node) → combined al (at al out) (get_or nodes i no_node) shape ≡ result_of al nodes i
  next_is shape is =
      subst (λ (s : Shape). combined al (at al out) (get_or nodes i no_node) s ≡ result_of al nodes i) (sym is)
      (same_look al (at al out) (result_of al nodes) i so_far (get_or nodes i no_node) (shape_of (get_or nodes i no_node)) (earlier nodes formed i i<) ∙ sym (result_follows al nodes i i< (earlier nodes formed i i<)))

  module _ (Small : A → Type 0) (small : (k : ℕ) → k < length nodes → Small (result_of al nodes k)) where
    pub small_entry : (k : ℕ) → k < i → Small (at al out k)
    small_entry k k< = subst Small (sym (so_far k k<)) (small k (omega arith))

    -- so are the entries that the node names
    pub small_needed : (shape : Shape) → shape ≡ shape_of (get_or nodes i no_node) → Needed Small (at al out) shape
    small_needed shape is = go shape (subst (Earlier i) (sym is) (earlier nodes formed i i<))
      where
        go : (shape : Shape) → Earlier i shape → Needed Small (at al out) shape
        go Quadric e = tt
        go (Sum a b) e = (small_entry a e.0, small_entry b e.1)
        go (Union a b) e = (small_entry a e.0, small_entry b e.1)
        go (Common a b) e = (small_entry a e.0, small_entry b e.1)
        go (Outside a) e = small_entry a e

    pub small_next : (shape : Shape) → shape ≡ shape_of (get_or nodes i no_node) → Small (combined al (at al out) (get_or nodes i no_node) shape)
    small_next shape is = subst Small (sym (next_is shape is)) (small i i<)

pub stored_entry : {A : Type 0} (al : Algebra A) (nodes : List Node) (out : List A) (i : ℕ) (v : A) → i < length out →
    ((k : ℕ) → k < i → at al out k ≡ result_of al nodes k) → v ≡ result_of al nodes i → (k : ℕ) → k < i + 1 → at al (set out i v) k ≡ result_of al nodes k
stored_entry al nodes out i v i< so_far here =
    below_more _ _
    (λ k h. let ne : k ≢ i = omega arith in get_or-set_other out i k v al.unknown ne ∙ so_far k h)
    (get_or-set_same out i v al.unknown i< ∙ here)
