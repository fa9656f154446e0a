-- Every call leaves a sheet that keeps to what sheets keep to.
use Rattle.std.proofs.Common.{◌≡◌, ℕ, zero, suc, ◌+◌, ◌-◌, ◌<◌, ◌≤◌, min, Bool, true, false, cond, eqb, leb, List, [], ◌∷◌, ◌++◌, length, get_or, take, set, replicate, ℤ, pos, nat_abs, Some, None, fold, Option, sym, refl, ◌∙◌, subst, ap₂, arith, length-append, length-set, length-take, get_or-take, take-take, below_more}
use borrow.Author.Differences.{ints}
use lib.Signed.{le_z, lt_z}
use lib.ListN.{get_or-append}
use lib.Seq.{get_or-append_seam, take-append-le, take-append_seam}
use Rattle.std.proofs.lemmas.Bool.{cond_both, eqb-true, eqb-false, and_parts}
use Rattle.nodes.specs.declared.node.Node.{Node}
use Rattle.nodes.specs.Formed.{no_node}
use Rattle.nodes.specs.Validation.{refers, node_refusal}
use Rattle.areas.specs.declared.area.Area.{Area}
use Rattle.areas.specs.Table.{needed, AllStand, Accepted, used}
use Rattle.areas.proofs.Tables.{not_used}
use Rattle.sheet.specs.declared.call.Call.{Call}
use Rattle.sheet.specs.declared.call.Call.TheVariants.{Add, TakeBack, Publish, Switch, Strike, Check}
use Rattle.sheet.specs.Calls.{SheetData, empty_sheet, names_area, is_on, published, call_refusal, switched, changed, after, built}
use Rattle.sheet.specs.Standing.{Standing}

-- ---- nodes

pub accepted_added : (nodes : List Node) (node : Node) → Accepted nodes → node_refusal nodes node ≡ 0 → Accepted (nodes ++ (node ∷ []))
accepted_added nodes node all here i i< =
    below_more (λ k. node_refusal (take k (nodes ++ (node ∷ []))) (get_or (nodes ++ (node ∷ [])) k no_node) ≡ 0) (length nodes)
    (λ k k<. ap₂ node_refusal (take-append-le k nodes (node ∷ []) (omega arith)) (get_or-append nodes (node ∷ []) no_node k k<) ∙ all k k<)
    (ap₂ node_refusal (take-append_seam nodes (node ∷ [])) (get_or-append_seam nodes node [] no_node) ∙ here)
    i (let longer : length (nodes ++ (node ∷ [])) ≡ length nodes + 1 = length-append nodes (node ∷ []) in omega arith)

pub accepted_taken : (n : ℕ) (nodes : List Node) → Accepted nodes → Accepted (take n nodes)
accepted_taken n nodes all i i< =
    let shorter : length (take n nodes) ≡ min n (length nodes) = length-take n nodes in
    let low : i < n = omega arith in
    let in_list : i < length nodes = omega arith in
    ap₂ node_refusal (take-take i n nodes (omega arith)) (get_or-take n nodes i no_node low) ∙ all i in_list

-- ---- areas

pub stands_set : (n : ℕ) (slots : List (Option Area)) (i : ℕ) (slot : Option Area) → needed slot ≤ n → AllStand n slots → AllStand n (set slots i slot)
stands_set n [] i slot h all k = all k
stands_set n (x ∷ slots) zero slot h all zero = h
stands_set n (x ∷ slots) zero slot h all (suc k) = all (suc k)
stands_set n (x ∷ slots) (suc i) slot h all zero = all 0
stands_set n (x ∷ slots) (suc i) slot h all (suc k) = stands_set n slots i slot h (λ j. all (suc j)) k

needed_switched : (on : Bool) (slot : Option Area) → needed (switched on slot) ≡ needed slot
needed_switched on None = refl
needed_switched on (Some a) = refl

-- ---- refusals

least : (a b : ℕ) → a ≤ b → min a b ≡ a
least a b h = omega arith

first_free : (b : Bool) (n m : ℕ) → ◌≡◌ {A = ℕ} (cond b (suc n) m) 0 → (b ≡ false) × (m ≡ 0)
first_free true n m e = absurd (omega arith)
first_free false n m e = (refl, e)

second_free : (b : Bool) (n m : ℕ) → ◌≡◌ {A = ℕ} (cond b m (suc n)) 0 → (b ≡ true) × (m ≡ 0)
second_free true n m e = (refl, e)
second_free false n m e = absurd (omega arith)

refers_under : (n : ℕ) (z : ℤ) → refers n z ≡ true → nat_abs z + 1 ≤ n
refers_under n z t = let p = and_parts (le_z (pos 0) z) (lt_z z (pos n)) t in omega (arith, ints)

leb_free : (a b : ℕ) → leb a b ≡ false → b < a
leb_free a b e = grind (arith)

module _ (sheet : SheetData) (ok : Standing sheet) where
  standing_changed : (call : Call) → call_refusal sheet call ≡ 0 → Standing (changed sheet call)
  standing_changed (Add node) e =
      let p = first_free (leb 64 (length sheet.nodes)) 5 (node_refusal sheet.nodes node) e in
      let room = leb_free 64 (length sheet.nodes) p.0 in
      let longer : length (sheet.nodes ++ (node ∷ [])) ≡ length sheet.nodes + 1 = length-append sheet.nodes (node ∷ []) in
      record {
        few = omega arith;
        sixteen = ok.sixteen;
        stands = λ k. omega (arith, ok.stands k);
        accepted = accepted_added sheet.nodes node ok.accepted p.1;
      }
  standing_changed TakeBack e =
      let a = first_free (eqb (length sheet.nodes) 0) 11 _ e in
      let b = first_free (used (length sheet.nodes - 1) sheet.slots) 12 0 a.1 in
      let some = eqb-false (length sheet.nodes) 0 a.0 in
      let n = length sheet.nodes - 1 in
      let one_less : n + 1 ≡ length sheet.nodes = omega arith in
      let shorter : length (take n sheet.nodes) ≡ n = length-take n sheet.nodes ∙ least n (length sheet.nodes) (omega arith) in
      record {
        few = let few = ok.few in omega arith;
        sixteen = ok.sixteen;
        stands = subst (λ (m : ℕ). AllStand m sheet.slots) (sym shorter) (not_used n sheet.slots b.0 (subst (λ (m : ℕ). AllStand m sheet.slots) (sym one_less) ok.stands));
        accepted = accepted_taken n sheet.nodes ok.accepted;
      }
  standing_changed (Publish area node on) e =
      let a = second_free (names_area area) 13 _ e in
      let b = first_free (published sheet area) 14 _ a.1 in
      let c = second_free (refers (length sheet.nodes) node) 16 _ b.1 in
      record {
        few = ok.few;
        sixteen = length-set sheet.slots (nat_abs area) (Some (record { node = nat_abs node; on = is_on on })) ∙ ok.sixteen;
        stands = stands_set (length sheet.nodes) sheet.slots (nat_abs area) (Some (record { node = nat_abs node; on = is_on on })) (refers_under (length sheet.nodes) node c.0) ok.stands;
        accepted = ok.accepted;
      }
  standing_changed (Switch area on) e = record {
    few = ok.few;
    sixteen = length-set sheet.slots (nat_abs area) (switched (is_on on) (get_or sheet.slots (nat_abs area) None)) ∙ ok.sixteen;
    stands = stands_set (length sheet.nodes) sheet.slots (nat_abs area) (switched (is_on on) (get_or sheet.slots (nat_abs area) None))
        (omega (arith, needed_switched (is_on on) (get_or sheet.slots (nat_abs area) None), ok.stands (nat_abs area))) ok.stands;
    accepted = ok.accepted;
  }
  standing_changed (Strike area) e = record {
    few = ok.few;
    sixteen = length-set sheet.slots (nat_abs area) None ∙ ok.sixteen;
    stands = stands_set (length sheet.nodes) sheet.slots (nat_abs area) None (omega arith) ok.stands;
    accepted = ok.accepted;
  }
  standing_changed (Check start end) e = ok

  pub standing_after : (call : Call) → Standing (after sheet call)
  standing_after call = cond_both {A = SheetData} (eqb (call_refusal sheet call) 0) (changed sheet call) sheet Standing (λ t. standing_changed call (eqb-true (call_refusal sheet call) 0 t)) (λ _. ok)

pub empty_standing : Standing empty_sheet
empty_standing = record {
  few = omega arith;
  sixteen = refl;
  stands = λ k. none_needed 16 k;
  accepted = λ i i<. absurd (omega arith);
}
  where
    none_needed : (n k : ℕ) → needed (get_or (replicate n None) k None) ≤ 0
    none_needed zero k = omega arith
    none_needed (suc n) zero = omega arith
    none_needed (suc n) (suc k) = none_needed n k

pub standing_folded : (sheet : SheetData) → Standing sheet → (calls : List Call) → Standing (fold after sheet calls)
standing_folded sheet ok [] = ok
standing_folded sheet ok (call ∷ calls) = standing_folded (after sheet call) (standing_after sheet ok call) calls

-- whatever calls were sent
pub built_standing : (calls : List Call) → Standing (built calls)
built_standing calls = standing_folded empty_sheet empty_standing calls
