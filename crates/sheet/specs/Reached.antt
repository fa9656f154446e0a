-- Calls that build a given sheet: its nodes are added in their order, and then its areas are published in the order of their numbers.
use Rattle.std.specs.Prelude.{ℕ, suc, Bool, cond, List, [], ◌∷◌, ◌++◌, map, ℤ, pos, Some, None, Option}
use Rattle.areas.specs.declared.area.Area.{Area}
use Rattle.sheet.specs.declared.call.Call.{Call}
use Rattle.sheet.specs.declared.call.Call.TheVariants.{Add, Publish}
use Rattle.sheet.specs.Calls.{SheetData}

abbrev pub switch_number : Bool → ℤ
switch_number on = cond on (pos 1) (pos 0)

-- from this area number on
abbrev pub publishing : ℕ → List (Option Area) → List Call
publishing number [] = []
publishing number (None ∷ slots) = publishing (suc number) slots
publishing number (Some a ∷ slots) = Publish (pos number) (pos a.node) (switch_number a.on) ∷ publishing (suc number) slots

abbrev pub calls_for : SheetData → List Call
calls_for sheet = map (λ node. Add node) sheet.nodes ++ publishing 0 sheet.slots
