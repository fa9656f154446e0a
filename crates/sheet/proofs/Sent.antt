-- What a call answers and leaves, once it is known which refusal fits.
use Rattle.std.proofs.Common.{◌≡◌, ℕ, ◌<◌, ◌≤◌, true, false, cond, eqb, leb, List, Option, sym, ap, ◌∙◌, arith}
use Rattle.std.proofs.lemmas.Bool.{cond-true, cond-false, eq-eqb, ne_eqb}
use Rattle.refusal.specs.declared.Refusal.{Refusal}
use Rattle.refusal.specs.declared.Refusal.TheVariants.{TextStart, LineEnd, FieldCount, ColumnName, FieldValue, SheetFull, NodeKind, NodeReference, UnusedColumn, QuadricRange, NodeReach, NoNode, NodeInUse, AreaNumber, AreaPublished, AreaNotPublished, AreaNode, AreaSwitch, CoordinateRange, SamePoint, LatticeSize, HeightRange, LayerReach, HalfStepRange, PieceShape}
use Rattle.refusal.specs.Numbers.{number_of}
use Rattle.nodes.specs.declared.node.Node.{Node}
use Rattle.areas.specs.declared.area.Area.{Area}
use Rattle.sheet.specs.declared.call.Call.{Call}
use Rattle.sheet.specs.Calls.{SheetData, call_refusal, changed, after}
use Rattle.sheet.specs.Answers.{taken, refused, number_for, done}

-- every refusal has a number from 1 on
pub some_number : (refusal : Refusal) → 1 ≤ number_of refusal
some_number TextStart = omega arith
some_number LineEnd = omega arith
some_number FieldCount = omega arith
some_number ColumnName = omega arith
some_number FieldValue = omega arith
some_number SheetFull = omega arith
some_number NodeKind = omega arith
some_number NodeReference = omega arith
some_number UnusedColumn = omega arith
some_number QuadricRange = omega arith
some_number NodeReach = omega arith
some_number NoNode = omega arith
some_number NodeInUse = omega arith
some_number AreaNumber = omega arith
some_number AreaPublished = omega arith
some_number AreaNotPublished = omega arith
some_number AreaNode = omega arith
some_number AreaSwitch = omega arith
some_number CoordinateRange = omega arith
some_number SamePoint = omega arith
some_number LatticeSize = omega arith
some_number HeightRange = omega arith
some_number LayerReach = omega arith
some_number HalfStepRange = omega arith
some_number PieceShape = omega arith

module _ (sheet : SheetData) (call : Call) where
  module _ (n : ℕ) (some : 1 ≤ n) (fits : n ≡ call_refusal sheet call) where
    not_zero : eqb (call_refusal sheet call) 0 ≡ false
    not_zero = ne_eqb (call_refusal sheet call) 0 (λ e. omega arith)

    pub done_refused : refused n ≡ done sheet call
    done_refused = ap refused fits ∙ sym (cond-false (eqb (call_refusal sheet call) 0) (taken (number_for sheet call)) (refused (call_refusal sheet call)) not_zero)

    pub after_refused : sheet ≡ after sheet call
    after_refused = sym (cond-false (eqb (call_refusal sheet call) 0) (changed sheet call) sheet not_zero)

  module _ (free : call_refusal sheet call ≡ 0) where
    zero : eqb (call_refusal sheet call) 0 ≡ true
    zero = eq-eqb (call_refusal sheet call) 0 free

    pub done_taken : taken (number_for sheet call) ≡ done sheet call
    done_taken = sym (cond-true (eqb (call_refusal sheet call) 0) (taken (number_for sheet call)) (refused (call_refusal sheet call)) zero)

    pub after_taken : changed sheet call ≡ after sheet call
    after_taken = sym (cond-true (eqb (call_refusal sheet call) 0) (changed sheet call) sheet zero)

-- data with other nodes
pub with_nodes : {a b : List Node} {slots : List (Option Area)} → a ≡ b → ◌≡◌ {A = SheetData} (record { nodes = a; slots = slots }) (record { nodes = b; slots = slots })
with_nodes {slots = slots} e = λ i. record { nodes = e i; slots = slots }

-- a sheet that is not full refuses a node for what the node is
pub not_full : (count n : ℕ) → count < 64 → n ≡ cond (leb 64 count) 6 n
not_full count n h = sym (cond-false (leb 64 count) 6 n (above 64 count h))
  where
    above : (a b : ℕ) → b < a → leb a b ≡ false
    above a b k = grind arith
