-- The three tables' names, and where a name stands.
use Rattle.std.specs.Prelude.{ℕ, ◌+◌, ◌*◌, ◌/◌, ◌%◌, ◌^◌, Bool, List, [], ◌∷◌, map, codes, Option, position, option_and_then, unwrap_or, slice_get}
use Rattle.std.specs.Borrow.{Bor}
use Rattle.std.specs.List.{position_or_len, list_any, range_with_len}
use Rattle.std.specs.Str.{bytes_eq}
use Rattle.table.specs.declared.table.Table.{Table}
use Rattle.table.specs.declared.table.Table.TheVariants.{Nodes, Areas, Legs}

abbrev pub column_names : Table → List (List ℕ)
column_names Nodes = codes "kind" ∷ codes "a" ∷ codes "b" ∷ codes "px" ∷ codes "py" ∷ codes "pz" ∷ codes "sx" ∷ codes "sy" ∷ codes "sz" ∷ codes "lx" ∷ codes "ly" ∷ codes "lz" ∷ codes "k" ∷ []
column_names Areas = codes "area" ∷ codes "node" ∷ codes "on" ∷ []
column_names Legs = codes "x1" ∷ codes "y1" ∷ codes "z1" ∷ codes "x2" ∷ codes "y2" ∷ codes "z2" ∷ []

-- the bytes of names that are lent
abbrev pub held : List (Bor (List ℕ)) → List (List ℕ)
held xs = map (λ x. x.now) xs

-- the first place where a field stands among others, from 0
abbrev pub position_of : List (List ℕ) → List ℕ → Option ℕ
position_of xs f = position (λ x. bytes_eq x f) xs

-- the same; how many they are, if it is not there
abbrev pub place_in : List (List ℕ) → List ℕ → ℕ
place_in xs f = position_or_len (λ x. bytes_eq x f) xs

-- the field stands among them
abbrev pub known : List (List ℕ) → List ℕ → Bool
known xs f = list_any (λ x. bytes_eq x f) xs

-- the place of a column's name in a names line; 13, where no line has a field, if there is no such column or no such name
abbrev pub place_at : List (List ℕ) → List (List ℕ) → ℕ → ℕ
place_at ns heads column = unwrap_or (option_and_then (position_of heads) (slice_get ns column)) 13

-- the places of the thirteen columns of a row
abbrev pub places_of : List (List ℕ) → List (List ℕ) → List ℕ
places_of ns heads = map (place_at ns heads) (range_with_len 0 13)

-- places packed into one number: four bits for each, the first column's lowest
abbrev pub packed : List ℕ → ℕ
packed [] = 0
packed (p ∷ ps) = packed ps * 16 + p

-- the place of a column in a packed order: four bits for each, the first column's lowest
abbrev pub place_of : ℕ → ℕ → ℕ
place_of order column = order / 2 ^ (4 * column) % 16

-- the places of the thirteen columns in a packed order
unfoldable pub unpacked : ℕ → List ℕ
unpacked order = map (place_of order) (range_with_len 0 13)
