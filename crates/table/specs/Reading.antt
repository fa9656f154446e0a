-- What a table of text says: its rows up to the first fault in reading order, and that fault.
use Rattle.std.specs.Prelude.{◌≡◌, ℕ, zero, suc, ◌+◌, ◌-◌, ◌<◌, ◌≤◌, Bool, true, cond, ◌&&◌, ◌||◌, List, [], ◌∷◌, ◌++◌, map, length, take, drop, replicate, ℤ, pos, is_some, Some, None, Ok, Err, Option, Result, ◌==◌, nat_eq, nat_lt, slice_index, slice_index_or}
use Rattle.std.specs.Option.{option_eq}
use Rattle.table.specs.declared.table.Table.{Table}
use Rattle.refusal.specs.declared.Fault.{Fault}
use Rattle.refusal.specs.declared.Refusal.{Refusal}
use Rattle.refusal.specs.declared.Refusal.TheVariants.{TextStart, LineEnd, FieldCount, ColumnName, FieldValue}
use Rattle.refusal.specs.Numbers.{fault}
use Rattle.table.specs.Text.{fields, lines, LinePart}
use Rattle.table.specs.Number.{number_of}
use Rattle.table.specs.Names.{column_names, position_of, place_in, known, places_of}

-- what comes next, unless there was a fault
abbrev pub and_then : {X Y : Type 0} → Result X Fault → (X → Result Y Fault) → Result Y Fault
and_then (Err f) next = Err f
and_then (Ok x) next = next x

-- the text is empty, over 65536 bytes, or does not begin with a to z
abbrev pub unfit : List ℕ → Bool
unfit text = length text == 0 || nat_lt 65536 (length text) || nat_lt (slice_index text 0) 97 || nat_lt 122 (slice_index text 0)

-- 1: the text is unfit
abbrev pub opened_text : List ℕ → Result (List ℕ) Fault
opened_text text = cond (unfit text) (Err (fault TextStart 1 0)) (Ok text)

-- the line numbered n, which stands first among these
-- 2: it has no line feed, or over 200 bytes before it; 3: not as many fields as the table
abbrev pub line_at : ℕ → ℕ → List (List ℕ) → Result (List ℕ) Fault
line_at count n [] = Err (fault LineEnd n 0)
line_at count n (l ∷ ls) = cond (length ls == 0 || nat_lt 200 (length l)) (Err (fault LineEnd n 0)) (cond (length (fields l) == count) (Ok l) (Err (fault FieldCount n 0)))

-- the first field that is not good, counted from 1; the fields begin at place i, counted from 0
abbrev pub first_not : (ℕ → List ℕ → Bool) → ℕ → List (List ℕ) → Option ℕ
first_not good i [] = None
first_not good i (f ∷ fs) = cond (good i f) (first_not good (i + 1) fs) (Some (i + 1))

-- the fields, unless one is not good: then the refusal at the first of those
abbrev pub unless : Refusal → ℕ → List (List ℕ) → Option ℕ → Result (List (List ℕ)) Fault
unless refusal n fs None = Ok fs
unless refusal n fs (Some column) = Err (fault refusal n column)

abbrev pub checked : (ℕ → List ℕ → Bool) → Refusal → ℕ → List (List ℕ) → Result (List (List ℕ)) Fault
checked good refusal n fs = unless refusal n fs (first_not good 0 fs)

-- a name of the table that stands here for the first time
abbrev pub good_name : List (List ℕ) → List (List ℕ) → ℕ → List ℕ → Bool
good_name ns heads i f = known ns f && option_eq nat_eq (position_of heads f) (Some i)

abbrev pub good_value : ℕ → List ℕ → Bool
good_value i f = is_some (number_of f)

-- the fields of the names line; 4: one is no name of the table, or repeats one
abbrev pub heads_of : List (List ℕ) → List ℕ → Result (List (List ℕ)) Fault
heads_of ns text = and_then (line_at (length ns) 1 (lines text)) (λ l. checked (good_name ns (fields l)) ColumnName 1 (fields l))

-- the number that a field says
abbrev pub or_zero : Option ℤ → ℤ
or_zero None = pos 0
or_zero (Some z) = z

abbrev pub value_of : List ℕ → ℤ
value_of f = or_zero (number_of f)

-- a row has thirteen places, and those past the table's columns are 0
abbrev pub filled : List ℤ → List ℤ
filled vs = vs ++ replicate (13 - length vs) (pos 0)

-- a row: under each of the table's names the value that stands where the name stands in the names line
abbrev pub row_under : List (List ℕ) → List (List ℕ) → List (List ℕ) → List ℤ
row_under ns heads fs = filled (map (λ n. value_of (slice_index_or fs (place_in heads n) [])) ns)

-- the same by the places of a row's columns, of which the table has the first `count`
abbrev pub row_by : List ℕ → ℕ → List (List ℕ) → List ℤ
row_by places count fs = filled (map (λ place. value_of (slice_index_or fs place [])) (take count places))

-- nothing stands after the last line feed
abbrev pub ended : List (List ℕ) → Bool
ended [] = true
ended (l ∷ ls) = length l + length ls == 0

-- what is answered at the line numbered n: its row; none at the end; or its fault, 5: a field is not a whole number
abbrev pub row_at : (List (List ℕ) → List ℤ) → ℕ → ℕ → List (List ℕ) → Result (Option (List ℤ)) Fault
row_at row count n ls = cond (ended ls) (Ok None) (and_then (line_at count n ls) (λ l. and_then (checked good_value FieldValue n (fields l)) (λ fs. Ok (Some (row fs)))))

-- the whole: the rows up to the first fault, and that fault
pub record Reading : Type 0 where
  pub rows : List (List ℤ)
  pub stop : Option Fault

abbrev pub after : Result (Option (List ℤ)) Fault → Reading → Reading
after (Err f) more = record { rows = []; stop = Some f }
after (Ok None) more = record { rows = []; stop = None }
after (Ok (Some row)) more = record { rows = row ∷ more.rows; stop = more.stop }

abbrev pub rows_from : (List (List ℕ) → List ℤ) → ℕ → ℕ → List (List ℕ) → Reading
rows_from row count n [] = record { rows = []; stop = None }
rows_from row count n (l ∷ ls) = after (row_at row count n (l ∷ ls)) (rows_from row count (n + 1) ls)

-- nothing but a fault
abbrev pub refused : Fault → Reading
refused f = record { rows = []; stop = Some f }

abbrev pub body : List (List ℕ) → List ℕ → Result (List (List ℕ)) Fault → Reading
body ns text (Err f) = refused f
body ns text (Ok heads) = rows_from (row_under ns heads) (length ns) 2 (drop 1 (lines text))

abbrev pub reading : Table → List ℕ → Reading
reading table text = body (column_names table) text (and_then (opened_text text) (heads_of (column_names table)))

-- the line that stands next, past `line` lines whose bytes end at `at`
abbrev pub standing : Table → List ℕ → ℕ → ℕ → Result (List ℕ) Fault
standing table text at line = line_at (length (column_names table)) (line + 1) (lines (drop at text))

-- this is the line, and the part of the text from there up to the next line feed
abbrev pub HandsOut : Table → List ℕ → ℕ → ℕ → List ℕ → Type 0
HandsOut table text at line l = (standing table text at line ≡ Ok l) × LinePart text at l

-- what a row reader answers whose columns stand at these places, past `line` lines, whose bytes end at `at`
abbrev pub next_in : Table → List ℕ → List ℕ → ℕ → ℕ → Result (Option (List ℤ)) Fault
next_in table places text at line = row_at (row_by places (length (column_names table))) (length (column_names table)) (line + 1) (lines (drop at text))

-- what is still to be read there
abbrev pub left : Table → List ℕ → List ℕ → ℕ → ℕ → Reading
left table places text at line = rows_from (row_by places (length (column_names table))) (length (column_names table)) (line + 1) (lines (drop at text))

-- the names line is accepted, and its columns stand at these places
abbrev pub Named : Table → List ℕ → List ℕ → Type 0
Named table text places = (heads : List (List ℕ)) × (heads_of (column_names table) text ≡ Ok heads) × (places ≡ places_of (column_names table) heads)

-- the row numbered k, from 0; the fault before it; or none
abbrev pub row_among : ℕ → List (List ℤ) → Option Fault → Result (Option (List ℤ)) Fault
row_among k [] (Some f) = Err f
row_among k [] None = Ok None
row_among zero (r ∷ rs) f = Ok (Some r)
row_among (suc k) (r ∷ rs) f = row_among k rs f

abbrev pub row_of : ℕ → Reading → Result (Option (List ℤ)) Fault
row_of k r = row_among k r.rows r.stop

-- of a text with so many line feeds there is a row numbered k just where a line feed is left for it after the names line's
abbrev pub Complete : ℕ → ℕ → Result (Option (List ℤ)) Fault → Type 0
Complete fed k (Ok (Some row)) = k + 1 < fed
Complete fed k (Ok None) = fed ≤ k + 1
Complete fed k (Err f) = ⊥

-- where the row reader stands after an answer: past the line whose row it gave, of len bytes; else where it was
abbrev pub Stands : Result (Option (List ℤ)) Fault → ℕ → ℕ → ℕ → ℕ → ℕ → Type 0
Stands (Ok (Some row)) len at line at' line' = (at' ≡ at + len + 1) × (line' ≡ line + 1)
Stands (Ok None) len at line at' line' = (at' ≡ at) × (line' ≡ line)
Stands (Err f) len at line at' line' = (at' ≡ at) × (line' ≡ line)
