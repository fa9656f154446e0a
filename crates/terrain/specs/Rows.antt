-- Rows of heights and the bytes of a file as lattices: which numbers they stand for, and which refusal fits them.
use Rattle.std.specs.Prelude.{ℕ, ◌+◌, ◌*◌, ◌/◌, Bool, cond, ◌&&◌, List, map, length, ℤ, pos, negsuc, ◌==◌, int_le, slice_index, slice_index_or}
use Rattle.std.specs.List.{list_all}
use Rattle.std.specs.Int.{w16}
use Rattle.std.specs.Simd.{first_chunks}
use Rattle.std.proofs.Common.{to_z}

-- height (i, j) of a row is number 129 j + i
abbrev pub heights_of : List ℤ → ℕ → ℕ → ℤ
heights_of hs i j = slice_index_or hs (129 * j + i) (pos 0)

-- a height from −16 to 300
abbrev pub in_range : ℤ → Bool
in_range h = int_le (negsuc 15) h && int_le h (pos 300)

-- the number of the first refusal that fits, or 0: 21 for the wrong number of heights, 22 for a height out of range
abbrev pub refusal_by : (sized ranged : Bool) → ℕ
refusal_by sized ranged = cond sized (cond ranged 0 22) 21

-- of a row, which has 129 · 129 heights
abbrev pub row_refusal : List ℤ → ℕ
row_refusal hs = refusal_by (length hs == 16641) (list_all in_range hs)

-- a height in a file: two bytes, high byte first, two's complement
abbrev pub height_of : List ℕ → ℤ
height_of pair = to_z w16 (slice_index pair 0 * 256 + slice_index pair 1)

-- the row that a file holds
abbrev pub file_heights : List ℕ → List ℤ
file_heights bytes = map height_of (first_chunks 2 (length bytes / 2) bytes)

-- of a file, which has two bytes a height
abbrev pub file_refusal : List ℕ → ℕ
file_refusal bytes = refusal_by (length bytes == 33282) (list_all in_range (file_heights bytes))
