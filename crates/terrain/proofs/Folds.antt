-- A fold of "and" says whether all pass.
use Rattle.std.proofs.Common.{◌≡◌, Bool, true, false, ◌&&◌, List, [], ◌∷◌, ℤ, fold, refl}
use Rattle.std.specs.List.{list_all}

pub fold_all : (t : ℤ → Bool) (hs : List ℤ) (good : Bool) → fold (λ (g : Bool) (h : ℤ). g && t h) good hs ≡ (good && list_all t hs)
fold_all t [] true = refl
fold_all t [] false = refl
fold_all t (h ∷ hs) true = fold_all t hs (t h)
fold_all t (h ∷ hs) false = fold_all t hs false
