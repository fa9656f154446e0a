-- What every sheet that a list of calls can build keeps to.
use Rattle.std.specs.Prelude.{◌≡◌, ◌≤◌, length}
use Rattle.areas.specs.Table.{AllStand, Accepted}
use Rattle.sheet.specs.Calls.{SheetData}

pub record Standing (sheet : SheetData) : Type 0 where
  pub few : length sheet.nodes ≤ 64
  pub sixteen : length sheet.slots ≡ 16
  -- the node of each area is in the list
  pub stands : AllStand (length sheet.nodes) sheet.slots
  -- each node can follow those before it
  pub accepted : Accepted sheet.nodes
