-- A list with one more node at its end, and with its last node taken away.
use Rattle.std.proofs.Common.{◌≡◌, ℕ, ◌+◌, ◌<◌, List, [], ◌∷◌, ◌++◌, length, get_or, ℤ, ◌≤ℤ◌, sym, ap, ◌∙◌, subst, arith, length-append, below_more}
use lib.ListN.{get_or-append}
use lib.Seq.{get_or-append_seam}
use Rattle.nodes.specs.declared.node.Node.{Node}
use Rattle.nodes.specs.Tables.{Algebra, shape_of, given, at, work, results, result_of}
use Rattle.nodes.specs.Meanings.{reaches, reach_of}
use Rattle.nodes.specs.Formed.{Known, Keeps, WellFormed, no_node, reach_bound}
use Rattle.nodes.specs.TablesLemmas.{results_append}

module _ {A : Type 0} (al : Algebra A) where
  length_work : (done : List A) (nodes : List Node) → length (work al done nodes) ≡ length done + length nodes
  unfolding work
  length_work done [] = omega arith
  length_work done (node ∷ rest) =
      let longer : length (done ++ (given al (at al done) node ∷ [])) ≡ length done + 1 = length-append done (given al (at al done) node ∷ []) in
      let after : length (work al (done ++ (given al (at al done) node ∷ [])) rest) ≡ length (done ++ (given al (at al done) node ∷ [])) + length rest = length_work (done ++ (given al (at al done) node ∷ [])) rest in
      omega arith

  -- as many results as nodes
  pub length_results : (nodes : List Node) → length (results al nodes) ≡ length nodes
  length_results nodes = let h : length (work al [] nodes) ≡ 0 + length nodes = length_work [] nodes in omega arith

  -- the results that were there stay, and the new node's comes after them
  pub result_stays : (nodes : List Node) (node : Node) (i : ℕ) → i < length nodes → result_of al (nodes ++ (node ∷ [])) i ≡ result_of al nodes i
  result_stays nodes node i i< =
      let many : length (results al nodes) ≡ length nodes = length_results nodes in
      ap (λ (l : List A). at al l i) (results_append al nodes node) ∙ get_or-append (results al nodes) _ al.unknown i (omega arith)

  pub result_added : (nodes : List Node) (node : Node) → result_of al (nodes ++ (node ∷ [])) (length nodes) ≡ given al (result_of al nodes) node
  result_added nodes node =
      ap (λ (l : List A). at al l (length nodes)) (results_append al nodes node)
      ∙ ap (at al (results al nodes ++ (given al (result_of al nodes) node ∷ []))) (sym (length_results nodes))
      ∙ get_or-append_seam (results al nodes) (given al (result_of al nodes) node) [] al.unknown

module _ (nodes : List Node) (node : Node) where
  node_stays : (i : ℕ) → i < length nodes → get_or (nodes ++ (node ∷ [])) i no_node ≡ get_or nodes i no_node
  node_stays i i< = get_or-append nodes (node ∷ []) no_node i i<

  node_added : get_or (nodes ++ (node ∷ [])) (length nodes) no_node ≡ node
  node_added = get_or-append_seam nodes node [] no_node

  last_below : length nodes < length (nodes ++ (node ∷ []))
  last_below = let longer : length (nodes ++ (node ∷ [])) ≡ length nodes + 1 = length-append nodes (node ∷ []) in omega arith

  -- what holds of the list and of the new node holds of the longer list
  all_longer : (P : ℕ → Node → Type 0) → ((i : ℕ) → i < length nodes → P i (get_or nodes i no_node)) → P (length nodes) node →
      (i : ℕ) → i < length (nodes ++ (node ∷ [])) → P i (get_or (nodes ++ (node ∷ [])) i no_node)
  all_longer P all here i i< =
      below_more (λ k. P k (get_or (nodes ++ (node ∷ [])) k no_node)) (length nodes)
      (λ k k<. subst (P k) (sym (node_stays k k<)) (all k k<))
      (subst (P (length nodes)) (sym node_added) here) i one_more
    where
      one_more : i < length nodes + 1
      one_more = let longer : length (nodes ++ (node ∷ [])) ≡ length nodes + 1 = length-append nodes (node ∷ []) in omega arith

  -- what an addition has to look at
  pub added_well_formed : WellFormed nodes → Known node.kind → Keeps (length nodes) node (shape_of node) → given reaches (reach_of nodes) node ≤ℤ reach_bound → WellFormed (nodes ++ (node ∷ []))
  added_well_formed formed known keeps near = record {
    known = all_longer (λ _ n. Known n.kind) formed.known known;
    keeps = all_longer (λ i n. Keeps i n (shape_of n)) formed.keeps keeps;
    reached = λ i i<. below_more (λ k. reach_of (nodes ++ (node ∷ [])) k ≤ℤ reach_bound) (length nodes)
        (λ k k<. subst (λ (x : ℤ). x ≤ℤ reach_bound) (sym (result_stays reaches nodes node k k<)) (formed.reached k k<))
        (subst (λ (x : ℤ). x ≤ℤ reach_bound) (sym (result_added reaches nodes node)) near) i (one_more i i<);
  }
    where
      one_more : (i : ℕ) → i < length (nodes ++ (node ∷ [])) → i < length nodes + 1
      one_more i i< = let longer : length (nodes ++ (node ∷ [])) ≡ length nodes + 1 = length-append nodes (node ∷ []) in omega arith

  -- what the last node of a well-formed list keeps
  pub last_known : WellFormed (nodes ++ (node ∷ [])) → Known node.kind
  last_known formed = subst (λ (n : Node). Known n.kind) node_added (formed.known (length nodes) last_below)

  pub last_keeps : WellFormed (nodes ++ (node ∷ [])) → Keeps (length nodes) node (shape_of node)
  last_keeps formed = subst (λ (n : Node). Keeps (length nodes) n (shape_of n)) node_added (formed.keeps (length nodes) last_below)

  pub last_reach : WellFormed (nodes ++ (node ∷ [])) → given reaches (reach_of nodes) node ≤ℤ reach_bound
  last_reach formed = subst (λ (x : ℤ). x ≤ℤ reach_bound) (result_added reaches nodes node) (formed.reached (length nodes) last_below)

  -- taking the last node back
  pub taken_back_well_formed : WellFormed (nodes ++ (node ∷ [])) → WellFormed nodes
  taken_back_well_formed formed = record {
    known = λ i i<. subst (λ (n : Node). Known n.kind) (node_stays i i<) (formed.known i (longer i i<));
    keeps = λ i i<. subst (λ (n : Node). Keeps i n (shape_of n)) (node_stays i i<) (formed.keeps i (longer i i<));
    reached = λ i i<. subst (λ (x : ℤ). x ≤ℤ reach_bound) (result_stays reaches nodes node i i<) (formed.reached i (longer i i<));
  }
    where
      longer : (i : ℕ) → i < length nodes → i < length (nodes ++ (node ∷ []))
      longer i i< = let more : length (nodes ++ (node ∷ [])) ≡ length nodes + 1 = length-append nodes (node ∷ []) in omega arith

-- the empty list is well-formed
pub empty_well_formed : WellFormed []
empty_well_formed = record { known = λ i i<. absurd (omega arith); keeps = λ i i<. absurd (omega arith); reached = λ i i<. absurd (omega arith) }
