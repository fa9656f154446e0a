-- The rows of the listing.
use Rattle.std.specs.Prelude.{◌≡◌, ℕ, ◌+◌, ◌≤◌, cond, List, [], ◌∷◌, ◌++◌, map, ℤ, pos, ◌==◌, slice_index_or, unsigned_abs}
use Rattle.std.specs.Fmt.{signed_decimal}
use Rattle.integer.specs.Numbers.{Within}
use Rattle.leg.specs.declared.shapes.Point.{Point}
use Rattle.sheet.specs.Calls.{SheetData}
use Rattle.sheet.specs.Answers.{Answer, taken, refused, checked}
use Rattle.sheet.specs.Kept.{Joint, check_answer, Kept}
use Rattle.files.specs.Lines.{spaced}
use Rattle.listing.specs.declared.rows.Row.{Row}
use Rattle.listing.specs.declared.rows.Answer.{Answer as Kind}
use Rattle.listing.specs.declared.rows.Answer.TheVariants.{Clear, Inside, Entered, Near, Refused}
use Rattle.listing.specs.Positions.{scaled_at, rounded}

abbrev pub column : List ℤ → ℕ → ℤ
column row k = slice_index_or row k (pos 0)

-- the ends of the leg that a row of the legs table says
abbrev pub start_of : List ℤ → Point
start_of row = record { x = column row 0; y = column row 1; z = column row 2 }

abbrev pub end_of : List ℤ → Point
end_of row = record { x = column row 3; y = column row 4; z = column row 5 }

-- the check of a row of the legs table
abbrev pub answer_to : Joint → SheetData → List ℤ → Answer
answer_to joint sheet row = check_answer joint sheet (start_of row) (end_of row)

-- it keeps the promise of the check
abbrev pub KeptBy : Joint → SheetData → List ℤ → Answer → Type 0
KeptBy joint sheet row answer = Kept joint sheet (start_of row) (end_of row) answer

abbrev pub KeptRow : Joint → SheetData → List ℤ → Type 0
KeptRow joint sheet row = KeptBy joint sheet row (answer_to joint sheet row)

-- the coordinate printed for an answer on a leg on which it goes from a to b: the end for clear, the start for inside, else the start of the piece, rounded
abbrev pub printed_at : ℕ → ℤ → (a b : ℤ) → ℤ
printed_at answer piece a b = cond (answer == 0) b (cond (answer == 1) a (rounded (scaled_at a b (unsigned_abs piece))))

-- what is printed for a leg: its number, the answer, the piece, the bounds and the position. A refused leg has the answer 4 and the number of the refusal as piece.
abbrev pub numbers_of_row : ℕ → List ℤ → Answer → List ℤ
numbers_of_row number row (checked r) =
    pos number ∷ pos r.answer ∷ r.piece ∷ pos r.bounds
    ∷ printed_at r.answer r.piece (column row 0) (column row 3)
    ∷ printed_at r.answer r.piece (column row 1) (column row 4)
    ∷ printed_at r.answer r.piece (column row 2) (column row 5)
    ∷ []
numbers_of_row number row (refused n) = pos number ∷ pos 4 ∷ pos n ∷ pos 0 ∷ pos 0 ∷ pos 0 ∷ pos 0 ∷ []
-- no check is answered so
numbers_of_row number row (taken n) = []

-- the answers by their numbers
abbrev pub answer_number : Kind → ℕ
answer_number Clear = 0
answer_number Inside = 1
answer_number Entered = 2
answer_number Near = 3
answer_number Refused = 4

-- these are the numbers of the code's row
abbrev pub Shows : List ℤ → Row → Type 0
Shows numbers row = numbers ≡ pos row.leg ∷ pos (answer_number row.answer) ∷ row.piece ∷ pos row.bounds ∷ column row.at 0 ∷ column row.at 1 ∷ column row.at 2 ∷ []

abbrev pub row_text : Joint → SheetData → ℕ → List ℤ → List ℕ
row_text joint sheet number row = spaced (map signed_decimal (numbers_of_row number row (answer_to joint sheet row)))

-- a line for each row, numbered from `number` on
abbrev pub rows_text : Joint → SheetData → ℕ → List (List ℤ) → List ℕ
rows_text joint sheet number [] = []
rows_text joint sheet number (row ∷ rows) = row_text joint sheet number row ++ rows_text joint sheet (number + 1) rows

-- the coordinates of a row are on the map
pub record OnMap (row : List ℤ) : Type 0 where
  pub x1_in : Within (column row 0) (pos 4096)
  pub y1_in : Within (column row 1) (pos 4096)
  pub z1_in : Within (column row 2) (pos 4096)
  pub x2_in : Within (column row 3) (pos 4096)
  pub y2_in : Within (column row 4) (pos 4096)
  pub z2_in : Within (column row 5) (pos 4096)

-- what an answer gives that its row can be printed in 64 bits
abbrev pub Printable : List ℤ → Answer → Type 0
Printable row (checked r) = OnMap row × (unsigned_abs r.piece ≤ 2048)
Printable row (refused n) = Unit {0}
Printable row (taken n) = Unit {0}
