-- A text is cut into lines at each byte 10, a line into fields at each byte 32.
use Rattle.std.specs.Prelude.{◌≡◌, ℕ, ◌+◌, ◌<◌, List, [], ◌∷◌, ◌++◌, length, take, drop, Some, None, Option, ◌==◌, ◌≢◌, count_by, slice_index, slice_index_or}
use Rattle.std.specs.Borrow.{Bor}
use Rattle.std.specs.List.{slice_split}

-- the bytes between the marks: one part more than there are marks, empty parts too
abbrev pub parts : ℕ → List ℕ → List (List ℕ)
parts mark s = slice_split (λ x. x == mark) s

abbrev pub fields : List ℕ → List (List ℕ)
fields line = parts 32 line

-- the fields of what is left of a line, none where nothing is left
abbrev pub fields_in : Option (Bor (List ℕ)) → List (List ℕ)
fields_in None = []
fields_in (Some rest) = fields rest.now

-- the lines, and last what stands after the last line feed: nothing, if every line has one
abbrev pub lines : List ℕ → List (List ℕ)
lines text = parts 10 text

-- how many line feeds a text has
abbrev pub feeds : List ℕ → ℕ
feeds text = count_by (λ x. x == 10) text

abbrev pub first_line : List ℕ → List ℕ
first_line text = slice_index_or (lines text) 0 []

-- the part of a text from the offset `at` up to the next line feed
pub record LinePart (text : List ℕ) (at : ℕ) (line : List ℕ) : Type 0 where
  pub within : at + length line < length text
  pub part : text ≡ take at text ++ (line ++ (10 ∷ drop (at + length line + 1) text))
  pub unbroken : (k : ℕ) → k < length line → slice_index line k ≢ 10
