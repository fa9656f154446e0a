-- The greatest of an iterator over a range is that of the rules.
use Rattle.std.proofs.Common.{◌≡◌, ℕ, zero, suc, ◌+◌, Option, option_map, map, max, fold, sym, refl, ap, ◌∙◌, add-one, arith}
use Rattle.std.specs.List.{range_with_len, reduce}
use Rattle.std.specs.Option.{unwrap_or}
use Rattle.std.proofs.lemmas.Iterator.Adapters.{option_map_id}
use Rattle.lattice.specs.Terrain.{most}

most_more : (f : ℕ → ℕ) (n : ℕ) → max (most n f) (f n) ≡ most (n + 1) f
most_more f n = one_more ∙ ap (λ (k : ℕ). most k f) (omega arith)
  where
    one_more : max (most n f) (f n) ≡ most (suc n) f
    one_more = unfold most in refl

most_from : (f : ℕ → ℕ) (n a top : ℕ) → top ≡ most a f → fold max top (map f (range_with_len a n)) ≡ most (n + a) f
most_from f zero a top e = e ∙ ap (λ (k : ℕ). most k f) (omega arith)
most_from f (suc n) a top e =
    most_from f n (a + 1) (max top (f a)) (ap (λ (t : ℕ). max t (f a)) e ∙ most_more f a) ∙ ap (λ (k : ℕ). most k f) (omega arith)

in_range : (f : ℕ → ℕ) (n : ℕ) → unwrap_or (reduce max (map f (range_with_len 0 n))) 0 ≡ most n f
unfolding most
in_range f zero = refl
in_range f (suc n) = most_from f n 1 (f 0) (omega arith) ∙ ap (λ (k : ℕ). most k f) (add-one n)

-- what `max` answers
pub greatest_is : (f : ℕ → ℕ) (n : ℕ) (o : Option ℕ) → option_map (λ x. x) o ≡ reduce max (map f (range_with_len 0 n)) → unwrap_or o 0 ≡ most n f
greatest_is f n o e = ap (λ (o : Option ℕ). unwrap_or o 0) (sym (option_map_id o) ∙ e) ∙ in_range f n
