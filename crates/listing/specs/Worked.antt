-- Worked cases, collected.
use Rattle.std.specs.Prelude.{◌≡◌, ℕ, List, [], pos, negsuc, codes}
use Rattle.affine.specs.Worked.{WorkedForms}
use Rattle.lattice.specs.Meaning.{WorkedTerrain}
use Rattle.sheet.specs.Worked.{WorkedSheet}
use Rattle.listing.specs.Positions.{rounded}
use Rattle.listing.specs.Listing.{listing_of}

abbrev pub nodes_file : List ℕ
nodes_file = codes "kind a b px py pz sx sy sz lx ly lz k\n1 0 0 100 0 0 0 0 0 -1 0 0 0\n"

abbrev pub areas_file : List ℕ
areas_file = codes "area node on\n3 0 1\n"

abbrev pub legs_file : List ℕ
legs_file = codes "x1 y1 z1 x2 y2 z2\n0 0 100 200 0 100\n0 0 100 50 0 100\n100 0 100 200 0 100\n7 7 7 7 7 7\n"

-- everything with x at or beyond 100 is closed: a leg that goes in, one that stays out, one that starts inside, and one point
abbrev pub rows_of_four : List ℕ
rows_of_four = codes "leg answer piece bounds x y z\n0 2 1023 22 100 0 100\n1 0 -1 1 50 0 100\n2 1 0 0 100 0 100\n3 4 20 0 0 0 0\n"

pub record Worked : Type 0 where
  pub forms : WorkedForms
  pub terrain : WorkedTerrain
  pub sheet : WorkedSheet
  -- 1/2 prints 1 and −1/2 prints −1
  pub half : rounded (pos 1024) ≡ pos 1
  pub minus_half : rounded (negsuc 1023) ≡ negsuc 0
  pub listing : (listing_of nodes_file areas_file [] legs_file).text ≡ rows_of_four
