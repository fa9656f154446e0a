-- Every sheet is built by some list of calls.
use Rattle.std.proofs.Common.{◌≡◌, ℕ, suc, ◌+◌, ◌<◌, ◌≤◌, Bool, true, false, cond, List, [], ◌∷◌, ◌++◌, map, length, set, replicate, pos, is_some, Some, None, fold, Option, sym, refl, ap, ◌∙◌, subst, ap₂, append_assoc, add-zero, add-suc, arith, length-append}
use borrow.Author.Differences.{ints}
use lib.Seq.{get_or-append_seam, set-append_seam, take-append_seam}
use lib.Signed.{le_z, lt_z}
use Rattle.std.proofs.lemmas.Bool.{and_from}
use Rattle.nodes.specs.declared.node.Node.{Node}
use Rattle.nodes.specs.Formed.{no_node}
use Rattle.nodes.specs.Validation.{refers, node_refusal}
use Rattle.areas.specs.declared.area.Area.{Area}
use Rattle.areas.specs.Table.{needed, AllStand, Accepted}
use Rattle.leg.specs.declared.shapes.Point.{Point}
use Rattle.sheet.specs.declared.call.Call.{Call}
use Rattle.sheet.specs.declared.call.Call.TheVariants.{Add, Publish}
use Rattle.sheet.specs.Calls.{SheetData, empty_sheet, names_area, is_on_or_off, is_on, published, call_refusal, after, built}
use Rattle.sheet.specs.Standing.{Standing}
use Rattle.sheet.specs.Answers.{Answer}
use Rattle.sheet.specs.Kept.{Joint, Kept}
use Rattle.sheet.specs.Reached.{switch_number, publishing, calls_for}
use Rattle.sheet.specs.Live.{Live}
use Rattle.sheet.proofs.Sent.{after_taken, not_full, with_nodes}

-- ---- the nodes

add_node : (done : List Node) (node : Node) (rest : List Node) (slots : List (Option Area)) → Accepted (done ++ (node ∷ rest)) → length (done ++ (node ∷ rest)) ≤ 64 →
    after (record { nodes = done; slots = slots }) (Add node) ≡ record { nodes = done ++ (node ∷ []); slots = slots }
add_node done node rest slots all few =
    sym (after_taken (record { nodes = done; slots = slots }) (Add node) (sym (not_full (length done) (node_refusal done node) room) ∙ free))
  where
    longer : length (done ++ (node ∷ rest)) ≡ length done + suc (length rest)
    longer = length-append done (node ∷ rest)

    room : length done < 64
    room = let l = longer in let s = add-suc (length done) (length rest) in omega arith

    free : node_refusal done node ≡ 0
    free = ap₂ node_refusal (sym (take-append_seam done (node ∷ rest))) (sym (get_or-append_seam done node rest no_node))
        ∙ all (length done) (let l = longer in let s = add-suc (length done) (length rest) in omega arith)

add_nodes : (done rest : List Node) (slots : List (Option Area)) → Accepted (done ++ rest) → length (done ++ rest) ≤ 64 →
    fold after (record { nodes = done; slots = slots }) (map (λ node. Add node) rest) ≡ record { nodes = done ++ rest; slots = slots }
add_nodes done [] slots all few = with_nodes (sym (append_nil done))
  where
    append_nil : (l : List Node) → l ++ [] ≡ l
    append_nil [] = refl
    append_nil (x ∷ l) = ap (λ (m : List Node). x ∷ m) (append_nil l)
add_nodes done (node ∷ rest) slots all few =
    let joined : (done ++ (node ∷ [])) ++ rest ≡ done ++ (node ∷ rest) = append_assoc done (node ∷ []) rest in
    ap (λ (s : SheetData). fold after s (map (λ node. Add node) rest)) (add_node done node rest slots all few)
    ∙ add_nodes (done ++ (node ∷ [])) rest slots (subst Accepted (sym joined) all) (subst (λ (l : List Node). length l ≤ 64) (sym joined) few)
    ∙ with_nodes joined

-- ---- the areas

with_slots : {nodes : List Node} {a b : List (Option Area)} → a ≡ b → ◌≡◌ {A = SheetData} (record { nodes = nodes; slots = a }) (record { nodes = nodes; slots = b })
with_slots {nodes = nodes} e = λ i. record { nodes = nodes; slots = e i }

number_known : (n : ℕ) → n < 16 → names_area (pos n) ≡ true
number_known n h = and_from (le_z (pos 0) (pos n)) (le_z (pos n) (pos 15)) (grind (arith, ints)) (grind (arith, ints))

node_known : (n k : ℕ) → k < n → refers n (pos k) ≡ true
node_known n k h = and_from (le_z (pos 0) (pos k)) (lt_z (pos k) (pos n)) (grind (arith, ints)) (grind (arith, ints))

switch_known : (on : Bool) → is_on_or_off (switch_number on) ≡ true
switch_known true = refl
switch_known false = refl

switch_back : (on : Bool) → is_on (switch_number on) ≡ on
switch_back true = refl
switch_back false = refl

module _ (nodes : List Node) where
  publish_area : (done : List (Option Area)) (a : Area) (rest : List (Option Area)) → length done < 16 → a.node < length nodes →
      after (record { nodes = nodes; slots = done ++ (None ∷ rest) }) (Publish (pos (length done)) (pos a.node) (switch_number a.on)) ≡ record { nodes = nodes; slots = done ++ (Some a ∷ rest) }
  publish_area done a rest number< node< =
      sym (after_taken sheet (Publish (pos (length done)) (pos a.node) (switch_number a.on)) free)
      ∙ with_slots (ap (λ (b : Bool). set (done ++ (None ∷ rest)) (length done) (Some (record { node = a.node; on = b }))) (switch_back a.on) ∙ set-append_seam done None rest (Some a))
    where
      sheet : SheetData
      sheet = record { nodes = nodes; slots = done ++ (None ∷ rest) }

      free_number : published sheet (pos (length done)) ≡ false
      free_number = ap is_some (get_or-append_seam done None rest None)

      free : call_refusal sheet (Publish (pos (length done)) (pos a.node) (switch_number a.on)) ≡ 0
      free = λ i. cond (number_known (length done) number< i) (cond (free_number i) 15 (cond (node_known (length nodes) a.node node< i) (cond (switch_known a.on i) 0 18) 17)) 14

  -- the areas of `rest` are published after those of `done`
  abbrev Publishes : (done rest : List (Option Area)) → Type 0
  Publishes done rest = fold after (record { nodes = nodes; slots = done ++ replicate (length rest) None }) (publishing (length done) rest) ≡ record { nodes = nodes; slots = done ++ rest }

  module _ (done : List (Option Area)) (slot : Option Area) (rest : List (Option Area)) where
    longer : length (done ++ (slot ∷ [])) ≡ suc (length done)
    longer = length-append done (slot ∷ []) ∙ add-suc (length done) 0 ∙ ap suc (add-zero (length done))

    few_after : length done + suc (length rest) ≤ 16 → length (done ++ (slot ∷ [])) + length rest ≤ 16
    few_after few = let l = longer in let s = add-suc (length done) (length rest) in omega arith

    stands_after : AllStand (length nodes) (done ++ (slot ∷ rest)) → AllStand (length nodes) ((done ++ (slot ∷ [])) ++ rest)
    stands_after stands = subst (AllStand (length nodes)) (sym (append_assoc done (slot ∷ []) rest)) stands

    -- with the slot counted to those that are done
    moved : Publishes (done ++ (slot ∷ [])) rest →
        fold after (record { nodes = nodes; slots = done ++ (slot ∷ replicate (length rest) None) }) (publishing (suc (length done)) rest) ≡ record { nodes = nodes; slots = done ++ (slot ∷ rest) }
    moved e =
        sym (λ i. fold after (record { nodes = nodes; slots = append_assoc done (slot ∷ []) (replicate (length rest) None) i }) (publishing (longer i) rest))
        ∙ e
        ∙ with_slots (append_assoc done (slot ∷ []) rest)

  publish_areas : (done rest : List (Option Area)) → length done + length rest ≤ 16 → AllStand (length nodes) (done ++ rest) → Publishes done rest
  publish_areas done [] few stands = refl
  publish_areas done (None ∷ rest) few stands = moved done None rest (publish_areas (done ++ (None ∷ [])) rest (few_after done None rest few) (stands_after done None rest stands))
  publish_areas done (Some a ∷ rest) few stands =
      ap (λ (s : SheetData). fold after s (publishing (suc (length done)) rest)) (publish_area done a (replicate (length rest) None) room there)
      ∙ moved done (Some a) rest (publish_areas (done ++ (Some a ∷ [])) rest (few_after done (Some a) rest few) (stands_after done (Some a) rest stands))
    where
      room : length done < 16
      room = let s = add-suc (length done) (length rest) in omega arith

      there : a.node < length nodes
      there = let h = subst (λ (x : Option Area). needed x ≤ length nodes) (get_or-append_seam done (Some a) rest None) (stands (length done)) in omega arith

-- ---- both

folded_both : (sheet : SheetData) (a b : List Call) → fold after sheet (a ++ b) ≡ fold after (fold after sheet a) b
folded_both sheet [] b = refl
folded_both sheet (call ∷ a) b = folded_both (after sheet call) a b

pub reached : (sheet : SheetData) → Standing sheet → sheet ≡ built (calls_for sheet)
reached sheet ok =
    sym (folded_both empty_sheet (map (λ node. Add node) sheet.nodes) (publishing 0 sheet.slots)
    ∙ ap (λ (s : SheetData). fold after s (publishing 0 sheet.slots))
    (add_nodes [] sheet.nodes (replicate 16 None) ok.accepted ok.few ∙ with_slots (ap (λ (n : ℕ). replicate n None) (sym ok.sixteen)))
    ∙ publish_areas sheet.nodes [] sheet.slots (let e = ok.sixteen in omega arith) ok.stands)

pub live_of : (joint : Joint) (sheet : SheetData) → Standing sheet → (start end : Point) (answer : Answer) → Kept joint sheet start end answer → Live joint sheet start end answer
live_of joint sheet ok start end answer kept = record {
  kept = kept;
  reached = (calls_for sheet, reached sheet ok);
  always = λ calls e. subst (λ (s : SheetData). Kept joint s start end answer) e kept;
}
