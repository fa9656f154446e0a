-- What a row reader answers next, and what it has still to read.
use Rattle.std.specs.Prelude.{ℕ, List, length, drop, ℤ, Option, Result}
use Rattle.refusal.specs.declared.Fault.{Fault}
use Rattle.table.specs.declared.reader.Rows.{Rows}
use Rattle.table.specs.Text.{first_line}
use Rattle.table.specs.Names.{unpacked}
use Rattle.table.specs.Reading.{Reading, standing, HandsOut, next_in, left, Stands}

-- the bytes that are still to be read
abbrev pub rest_of : Rows → List ℕ
rest_of rows = drop rows.at rows.text.now

-- the line that stands next, or why it is refused
abbrev pub line_of : Rows → Result (List ℕ) Fault
line_of rows = standing rows.table rows.text.now rows.at rows.line

-- this is that line, a part of the text
abbrev pub LineOf : Rows → List ℕ → Type 0
LineOf rows l = HandsOut rows.table rows.text.now rows.at rows.line l

-- the next answer
abbrev pub next_of : Rows → Result (Option (List ℤ)) Fault
next_of rows = next_in rows.table (unpacked rows.order.packed) rows.text.now rows.at rows.line

-- the rows that are still to be read, and the fault that ends them
abbrev pub left_of : Rows → Reading
left_of rows = left rows.table (unpacked rows.order.packed) rows.text.now rows.at rows.line

-- from one state to the other the reader went past the line whose row it gave, or stayed
abbrev pub Passed : Result (Option (List ℤ)) Fault → Rows → Rows → Type 0
Passed answer old new = Stands answer (length (first_line (rest_of old))) old.at old.line new.at new.line
