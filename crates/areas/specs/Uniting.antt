-- What joining one area after the other asks.
use Rattle.std.specs.Prelude.{ℕ, ◌<◌, List, length, take, Some, None, Option, slice_index_or}
use Rattle.areas.specs.declared.area.Area.{Area}
use Rattle.areas.specs.Fields.{united}

-- the node of the slot can be joined to what there is
abbrev pub CanJoin : {X : Type 0} → (X → ℕ → Type 0) → X → Option Area → Type 0
CanJoin can so_far None = Unit {0}
CanJoin can so_far (Some a) = can so_far a.node

-- each slot can be joined to those before it
abbrev pub AllCanJoin : {X : Type 0} → (X → ℕ → Type 0) → (X → X → X) → (ℕ → X) → X → List (Option Area) → Type 0
AllCanJoin can join given start slots = (i : ℕ) → i < length slots → CanJoin can (united join given start (take i slots)) (slice_index_or slots i None)
