-- The refusals by number, the layers of the numbers, and the fault.
use Rattle.std.specs.Prelude.{◌≡◌, ℕ, ◌-◌, cond, leb, List, [], ◌∷◌, ◌++◌, codes, decimal, slice_index_or, refl}
use Rattle.refusal.specs.declared.Refusal.{Refusal}
use Rattle.refusal.specs.declared.Refusal.TheVariants.{TextStart, LineEnd, FieldCount, ColumnName, FieldValue, SheetFull, NodeKind, NodeReference, UnusedColumn, QuadricRange, NodeReach, NoNode, NodeInUse, AreaNumber, AreaPublished, AreaNotPublished, AreaNode, AreaSwitch, CoordinateRange, SamePoint, LatticeSize, HeightRange, LayerReach, HalfStepRange, PieceShape}
use Rattle.refusal.specs.declared.layer.Layer.{Layer}
use Rattle.refusal.specs.declared.layer.Layer.TheVariants.{Line, Value, Sheet, Field}
use Rattle.refusal.specs.declared.Fault.{Fault}

-- each refusal's number
abbrev pub number_of : Refusal → ℕ
number_of TextStart = 1
number_of LineEnd = 2
number_of FieldCount = 3
number_of ColumnName = 4
number_of FieldValue = 5
number_of SheetFull = 6
number_of NodeKind = 7
number_of NodeReference = 8
number_of UnusedColumn = 9
number_of QuadricRange = 10
number_of NodeReach = 11
number_of NoNode = 12
number_of NodeInUse = 13
number_of AreaNumber = 14
number_of AreaPublished = 15
number_of AreaNotPublished = 16
number_of AreaNode = 17
number_of AreaSwitch = 18
number_of CoordinateRange = 19
number_of SamePoint = 20
number_of LatticeSize = 21
number_of HeightRange = 22
number_of LayerReach = 23
number_of HalfStepRange = 24
number_of PieceShape = 25

-- all refusals, in the order of their numbers
abbrev pub refusals : List Refusal
refusals = TextStart ∷ LineEnd ∷ FieldCount ∷ ColumnName ∷ FieldValue ∷ SheetFull ∷ NodeKind ∷ NodeReference ∷ UnusedColumn ∷ QuadricRange ∷ NodeReach ∷ NoNode ∷ NodeInUse ∷ AreaNumber ∷ AreaPublished ∷ AreaNotPublished ∷ AreaNode ∷ AreaSwitch ∷ CoordinateRange ∷ SamePoint ∷ LatticeSize ∷ HeightRange ∷ LayerReach ∷ HalfStepRange ∷ PieceShape ∷ []

-- the refusal with this number, from 1 to 25
abbrev pub refusal_of : ℕ → Refusal
refusal_of n = slice_index_or refusals (n - 1) PieceShape

pub refusal_of-number_of : (refusal : Refusal) → refusal_of (number_of refusal) ≡ refusal
refusal_of-number_of TextStart = refl
refusal_of-number_of _ = refl

-- the layer of a number: 1 line, to 4; 2 value, to 5; 3 sheet, to 20; 4 field, above
abbrev pub layer_of : ℕ → ℕ
layer_of n = cond (leb n 4) 1 (cond (leb n 5) 2 (cond (leb n 20) 3 4))

-- each layer's number
abbrev pub number_of_layer : Layer → ℕ
number_of_layer Line = 1
number_of_layer Value = 2
number_of_layer Sheet = 3
number_of_layer Field = 4

-- the fault with this refusal, and its place in the text
abbrev pub fault : Refusal → ℕ → ℕ → Fault
fault r l c = record { refusal = r; line = l; column = c }

-- what is printed of a fault: number, layer, line and column
abbrev pub fault_row : Fault → List ℕ
fault_row f = decimal (number_of f.refusal) ++ (codes " " ++ (decimal (layer_of (number_of f.refusal)) ++ (codes " " ++ (decimal f.line ++ (codes " " ++ decimal f.column)))))
