-- Lines of fields.
use Rattle.std.specs.Prelude.{ℕ, List, [], ◌∷◌, ◌++◌}

-- fields, each after a space, and the line feed
abbrev pub spaced_more : List (List ℕ) → List ℕ
spaced_more [] = 10 ∷ []
spaced_more (f ∷ fs) = 32 ∷ (f ++ spaced_more fs)

-- a line of fields: a space stands before each but the first
abbrev pub spaced : List (List ℕ) → List ℕ
spaced [] = 10 ∷ []
spaced (f ∷ fs) = f ++ spaced_more fs
