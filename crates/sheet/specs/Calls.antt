-- A sheet as plain data, which calls it refuses, and the sheet that a list of calls builds.
use Rattle.std.specs.Prelude.{ℕ, ◌-◌, Bool, cond, ◌||◌, List, [], ◌∷◌, ◌++◌, length, take, replicate, ℤ, pos, is_some, Some, None, fold, Option, ◌==◌, nat_le, slice_index_or, slice_set, unsigned_abs}
use Rattle.leg.specs.Making.{is_between, leg_refusal}
use Rattle.nodes.specs.declared.node.Node.{Node}
use Rattle.nodes.specs.Tables.{equals}
use Rattle.nodes.specs.Validation.{refers, node_refusal}
use Rattle.areas.specs.declared.area.Area.{Area}
use Rattle.areas.specs.Table.{used}
use Rattle.sheet.specs.declared.call.Call.{Call}
use Rattle.sheet.specs.declared.call.Call.TheVariants.{Add, TakeBack, Publish, Switch, Strike, Check}

-- the nodes in the order added, and for each area number what is published under it
pub record SheetData : Type 0 where
  pub nodes : List Node
  pub slots : List (Option Area)

-- no nodes and no areas
abbrev pub empty_sheet : SheetData
empty_sheet = record { nodes = []; slots = replicate 16 None }

-- ---- when a call is refused

-- the number of an area is 0 to 15
abbrev pub names_area : ℤ → Bool
names_area area = is_between (pos 0) area (pos 15)

-- on is 0 or 1
abbrev pub is_on_or_off : ℤ → Bool
is_on_or_off on = equals on 0 || equals on 1

abbrev pub published : SheetData → ℤ → Bool
published sheet area = is_some (slice_index_or sheet.slots (unsigned_abs area) None)

-- the first number that fits, or 0. Add: 6 for a sheet that has 64 nodes, then 7 to 11 for the node. Take back: 12 for no node, 13 for a last node that a published
-- area has. Publish, switch, strike: 14 for an area number that is not 0 to 15; 15 for an area already published; 16 for one not published; 17 for a node that
-- is not in the sheet; 18 for on that is not 0 or 1. Check: 19 for a coordinate outside its range, 20 for a start that is the end.
abbrev pub call_refusal : SheetData → Call → ℕ
call_refusal sheet (Add node) = cond (nat_le 64 (length sheet.nodes)) 6 (node_refusal sheet.nodes node)
call_refusal sheet TakeBack = cond (length sheet.nodes == 0) 12 (cond (used (length sheet.nodes - 1) sheet.slots) 13 0)
call_refusal sheet (Publish area node on) =
    cond (names_area area) (cond (published sheet area) 15 (cond (refers (length sheet.nodes) node) (cond (is_on_or_off on) 0 18) 17)) 14
call_refusal sheet (Switch area on) = cond (names_area area) (cond (published sheet area) (cond (is_on_or_off on) 0 18) 16) 14
call_refusal sheet (Strike area) = cond (names_area area) (cond (published sheet area) 0 16) 14
call_refusal sheet (Check start end) = leg_refusal start end

-- ---- what a call does

abbrev pub is_on : ℤ → Bool
is_on on = equals on 1

-- the area with its switch set
abbrev pub switched : Bool → Option Area → Option Area
switched on None = None
switched on (Some a) = Some (record { node = a.node; on = on })

-- the sheet after a call that is taken
abbrev pub changed : SheetData → Call → SheetData
changed sheet (Add node) = record { nodes = sheet.nodes ++ (node ∷ []); slots = sheet.slots }
changed sheet TakeBack = record { nodes = take (length sheet.nodes - 1) sheet.nodes; slots = sheet.slots }
changed sheet (Publish area node on) = record { nodes = sheet.nodes; slots = slice_set sheet.slots (unsigned_abs area) (Some (record { node = unsigned_abs node; on = is_on on })) }
changed sheet (Switch area on) = record { nodes = sheet.nodes; slots = slice_set sheet.slots (unsigned_abs area) (switched (is_on on) (slice_index_or sheet.slots (unsigned_abs area) None)) }
changed sheet (Strike area) = record { nodes = sheet.nodes; slots = slice_set sheet.slots (unsigned_abs area) None }
changed sheet (Check start end) = sheet

-- the sheet after a call: a refused one leaves it as it was
abbrev pub after : SheetData → Call → SheetData
after sheet call = cond (call_refusal sheet call == 0) (changed sheet call) sheet

-- the sheet that a list of calls builds, from the opening on
abbrev pub built : List Call → SheetData
built calls = fold after empty_sheet calls
