-- The order of the columns in one number: four bits for each place.
use Rattle.std.proofs.Common.{◌≡◌, ℕ, zero, suc, ◌+◌, ◌*◌, ◌/◌, ◌%◌, ◌^◌, ◌<◌, ◌≤◌, ltb, List, [], ◌∷◌, length, get_or, fold, reverse, bit_or, All, Some, None, Option, option_and_then, unwrap_or, refl, sym, ap, ◌∙◌, arith, pow-suc, shr-shr, ltb-true}
use native.Mathlib.Nat.{one-le-pow}
use Rattle.std.specs.List.{range_with_len}
use Rattle.std.proofs.lemmas.List.{reverse-append}
use Rattle.std.proofs.lemmas.List.Elements.{All-head, All-tail, All-map}
use Rattle.std.proofs.lemmas.List.FromFn.{fill_by_all}
use Rattle.std.proofs.lemmas.List.Sums.{fold_push}
use Rattle.std.proofs.lemmas.Nat.{or_shifted}
use Rattle.std.proofs.lemmas.Bool.{cond_both}
use Rattle.table.specs.Names.{position_of, place_in, place_at, places_of, packed, place_of, unpacked}

abbrev Small : ℕ → Type 0
Small place = place < 16

-- one place more, below those that are packed
abbrev pub packed_on : ℕ → ℕ → ℕ
packed_on n place = bit_or (n * 2 ^ 4 % 2 ^ 64) place

packed_below : (ps : List ℕ) (m : ℕ) → length ps ≤ m → All Small ps → packed ps < 16 ^ m
packed_below [] m s a = one-le-pow m 16 (omega arith)
packed_below (p ∷ ps) zero s a = absurd (omega arith)
packed_below (p ∷ ps) (suc m) s a = let h = packed_below ps m (omega arith) (All-tail Small p ps a) in let l = All-head Small p ps a in rw (pow-suc 16 m) (omega arith)

-- a place goes below a number that leaves room
on_is : (n p : ℕ) → n < 2 ^ 60 → p < 16 → packed_on n p ≡ n * 16 + p
on_is n p h s = let e : n * 2 ^ 4 % 2 ^ 64 ≡ n * 2 ^ 4 = omega arith in ap (λ (m : ℕ). bit_or m p) e ∙ or_shifted n 4 p s

-- one place after another, from the last on
pub folded : (ps : List ℕ) → length ps ≤ 16 → All Small ps → fold packed_on 0 (reverse ps) ≡ packed ps
folded [] s a = refl
folded (p ∷ ps) s a =
    ap (fold packed_on 0) (reverse-append (p ∷ []) ps) ∙ fold_push packed_on 0 (reverse ps) p ∙ ap (λ (n : ℕ). packed_on n p) (folded ps (omega arith) (All-tail Small p ps a))
    ∙ on_is (packed ps) p (packed_below ps 15 (omega arith) (All-tail Small p ps a)) (All-head Small p ps a)

-- the place of the next column is that of this column, four bits down
next : (n k : ℕ) → place_of n (suc k) ≡ place_of (n / 16) k
next n k = ap (λ (m : ℕ). n / 2 ^ m % 16) (let e : 4 * suc k ≡ 4 + 4 * k = omega arith in e) ∙ ap (λ (m : ℕ). m % 16) (sym (shr-shr n 4 (4 * k)))

first : (n : ℕ) → place_of n 0 ≡ n % 16
first n = ap (λ (m : ℕ). m % 16) (let e : n / 1 ≡ n = omega arith in e)

stands : (ps : List ℕ) (k : ℕ) → All Small ps → k < length ps → place_of (packed ps) k ≡ get_or ps k 0
stands [] k a h = absurd (omega arith)
stands (p ∷ ps) zero a h = let l = All-head Small p ps a in first _ ∙ (let q = packed ps in let e : (q * 16 + p) % 16 ≡ p = omega arith in e)
stands (p ∷ ps) (suc k) a h =
    let l = All-head Small p ps a in
    let q = packed ps in
    let e : (q * 16 + p) / 16 ≡ q = omega arith in
    next _ k ∙ ap (λ (m : ℕ). place_of m k) e ∙ stands ps k (All-tail Small p ps a) (omega arith)

-- what is packed from thirteen places unpacks to them
pub unpacks : (ps : List ℕ) → length ps ≡ 13 → All (λ p. p < 16) ps → unpacked (fold packed_on 0 (reverse ps)) ≡ ps
unfolding unpacked
unpacks ps l a = ap unpacked (folded ps (omega arith) a) ∙ sym (fill_by_all (place_of (packed ps)) ps 13 0 l (λ k h. sym (stands ps k a (omega arith))))

-- in a line of at most thirteen fields every column's place is small
small_at : (heads : List (List ℕ)) (o : Option (List ℕ)) → length heads ≤ 13 → unwrap_or (option_and_then (position_of heads) o) 13 < 16
small_at heads None h = omega arith
small_at heads (Some f) h =
    let q = place_in heads f in
    cond_both (ltb q (length heads)) (Some q) None (λ (r : Option ℕ). unwrap_or r 13 < 16) (λ t. let l = ltb-true q (length heads) t in omega arith) (λ _. omega arith)

pub small_places : (ns heads : List (List ℕ)) → length heads ≤ 13 → All (λ p. p < 16) (places_of ns heads)
small_places ns heads h = All-map Small (place_at ns heads) (range_with_len 0 13) (λ k d l. small_at heads _ h)
