-- Arrays that a closure makes: the element at each place.
use Rattle.std.proofs.Common.{◌≡◌, ℕ, zero, suc, ◌+◌, ◌<◌, ◌≤◌, List, map, length, get_or, sym, ap, ◌∙◌, subst, ⊎_elim, arith}
use Rattle.std.specs.Array.{IsFromFnResultFrom, IsFromFnResult, MapsFrom, IsMapOf}
use Rattle.std.specs.Fn.{Called}
use Rattle.std.specs.List.{range_with_len}
use denote.Param.Members.{Mut}
use Rattle.std.proofs.lemmas.Bool.{cases_eq}
use Rattle.std.proofs.lemmas.List.{ext_get_or, get_or-map, length-map}
use Rattle.std.proofs.lemmas.List.FromFn.{fill_by_all}

module _ {F B : Type 0} (g : Mut F (ℕ × Unit {0}) B) (f : F) (h : ℕ → B) (computes : (k : ℕ) (y : B) (q : F) → Called g f (k, tt) y q → (q ≡ f) × (y ≡ h k)) (ys : List B) where
  made_from : (i n : ℕ) → IsFromFnResultFrom g f ys i n → (k : ℕ) (d : B) → i ≤ k → k < i + n → get_or ys k d ≡ h k
  made_from i zero r k d a b = absurd (omega arith)
  made_from i (suc n) r k d a b =
      let was = computes i r.1 r.0 r.3 in
      ⊎_elim (λ e. ap (λ (j : ℕ). get_or ys j d) e ∙ r.2.1 d ∙ was.1 ∙ sym (ap h e))
      (λ o. made_from (i + 1) n (subst (λ (p : F). IsFromFnResultFrom g p ys (i + 1) n) was.0 r.4) k d (omega arith) (omega arith)) (cases_eq k i)

  -- `from_fn`
  pub made_by : (n : ℕ) → B → IsFromFnResult g f ys n → ys ≡ map h (range_with_len 0 n)
  made_by n d r = fill_by_all h ys n d r.long (λ k l. made_from 0 n r.each k d (omega arith) (omega arith))

module _ {F A B : Type 0} (g : Mut F (A × Unit {0}) B) (f : F) (h : A → B) (computes : (x : A) (y : B) (q : F) → Called g f (x, tt) y q → (q ≡ f) × (y ≡ h x)) (xs : List A) (ys : List B) where
  mapped_from : (i n : ℕ) → MapsFrom g f xs ys i n → (k : ℕ) (c : A) (d : B) → i ≤ k → k < i + n → get_or ys k d ≡ h (get_or xs k c)
  mapped_from i zero r k c d a b = absurd (omega arith)
  mapped_from i (suc n) r k c d a b =
      let was = computes r.1 r.2 r.0 r.5 in
      ⊎_elim (λ e. ap (λ (j : ℕ). get_or ys j d) e ∙ r.4.1 d ∙ was.1 ∙ ap h (sym (r.3.1 c) ∙ ap (λ (j : ℕ). get_or xs j c) (sym e)))
      (λ o. mapped_from (i + 1) n (subst (λ (p : F). MapsFrom g p xs ys (i + 1) n) was.0 r.6) k c d (omega arith) (omega arith)) (cases_eq k i)

  -- `map` of an array
  pub mapped_by : (n : ℕ) → A → B → length xs ≡ n → IsMapOf g f xs ys n → ys ≡ map h xs
  mapped_by n c d l r =
      let lm = length-map xs h in
      let ly = r.long in
      ext_get_or d ys (map h xs) (omega arith) (λ k s. mapped_from 0 n r.each k c d (omega arith) (omega arith) ∙ sym (get_or-map h xs k c d (omega arith)))
