-- Two texts whose lines have the same fields up to one rearrangement of the columns.
use Rattle.std.specs.Prelude.{◌≡◌, ℕ, ◌<◌, List, [], ◌∷◌, map, length, None, All, Contains, slice_index_or}
use Rattle.std.specs.List.{AllZip}
use Rattle.table.specs.declared.table.Table.{Table}
use Rattle.table.specs.Text.{fields, lines}
use Rattle.table.specs.Names.{column_names}
use Rattle.table.specs.Reading.{reading}

-- the lines that end with a line feed
abbrev pub ending : List (List ℕ) → List (List ℕ)
ending [] = []
ending (l ∷ []) = []
ending (l ∷ m ∷ ls) = l ∷ ending (m ∷ ls)

-- the places below n, each at least once, n in all
abbrev pub Rearrangement : ℕ → List ℕ → Type 0
Rearrangement n places = (length places ≡ n) × All (λ k. k < n) places × ((k : ℕ) → k < n → Contains places k)

-- line m has the fields of line l at these places
abbrev pub Moved : List ℕ → List ℕ → List ℕ → Type 0
Moved places l m = fields m ≡ map (λ k. slice_index_or (fields l) k []) places

-- both texts are read without a fault, and line by line the second has the first one's fields in another order, the same in every line
pub record Rearranged (table : Table) (places text other : List ℕ) : Type 0 where
  pub order : Rearrangement (length (column_names table)) places
  pub moved : AllZip (Moved places) (ending (lines text)) (ending (lines other))
  pub good : (reading table text).stop ≡ None
  pub alike : (reading table other).stop ≡ None
