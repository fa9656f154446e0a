-- A field says a number just where it is the number's decimal writing.
use Rattle.std.proofs.Common.{◌≡◌, ℕ, zero, suc, ◌+◌, ◌-◌, ◌*◌, ◌^◌, ◌<◌, ◌≤◌, Bool, true, false, ◌&&◌, ◌||◌, eqb, ltb, leb, ◌⊎◌, List, [], ◌∷◌, length, get_or, ℤ, pos, negsuc, nat_abs, Some, None, decimal, Option, sym, refl, ap, ◌∙◌, subst, inl, inr, ⊎_elim, arith, rules, ltb-false, ne_eqb, le-leb, le-ltb}
use borrow.Author.Tests.{lt-leb}
use Rattle.std.specs.Fmt.{signed_decimal}
use Rattle.std.proofs.lemmas.Fmt.{decimal_nonempty, length-decimal-le, first_decimal, digits_decimal, digits_value-decimal, decimal-digits_value, decimal_digit}
use Rattle.std.proofs.lemmas.Str.Parse.{IsNumeralModel, numerals_by_fold}
use Rattle.std.proofs.lemmas.Bool.{and_parts, or_parts, cond-true, cond-false, and_left, and_right, or_from, cases_Bool, cases_eq, and_cases, eqb-true, eqb-false, leb-true, leb-false}
use Rattle.table.specs.Number.{is_digit_byte, read_on, capped, followed, magnitude_of, minus, plain, number_of, Says}
use Rattle.table.proofs.Variants.{some_none, some_same}

gate : (ds : List ℕ) → (length ds ≡ 0 → ⊥) → length ds ≤ 10 → (((get_or ds 0 0 ≡ 48) × (length ds ≤ 1)) ⊎ (get_or ds 0 0 ≡ 48 → ⊥)) → magnitude_of ds ≡ capped (read_on 0 ds)
gate ds n l e =
    let a : (eqb (length ds) 0 || ltb 10 (length ds)) ≡ false = or_from _ _ (ne_eqb _ _ n) (le-ltb 10 (length ds) l) in
    let b : (eqb (get_or ds 0 0) 48 && ltb 1 (length ds)) ≡ false = ⊎_elim (λ h. and_right _ _ (le-ltb 1 (length ds) h.1)) (λ h. and_left _ _ (ne_eqb _ _ h)) e in
    cond-false _ _ _ a ∙ cond-false _ _ _ b

-- digits, and what they are worth after a
abbrev Digit : ℕ → Type 0
Digit c = (48 ≤ c) × (c ≤ 57)

abbrev Digits : List ℕ → Type 0
Digits [] = Unit {0}
Digits (c ∷ cs) = Digit c × Digits cs

abbrev worth : ℕ → List ℕ → ℕ
worth a [] = a
worth a (c ∷ cs) = worth (a * 10 + (c - 48)) cs

own : IsNumeralModel Digits (worth 0)
own = numerals_by_fold Digits (search rules) worth (search rules)

is_digit : (c : ℕ) → is_digit_byte c ≡ true → Digit c
is_digit c t = let p = and_parts (leb 48 c) (leb c 57) t in (leb-true 48 c p.0, leb-true c 57 p.1)

digit_is : (c : ℕ) → Digit c → is_digit_byte c ≡ true
digit_is c d = ap (λ (b : Bool). b && leb c 57) (le-leb 48 c d.0) ∙ le-leb c 57 d.1

-- what is read are digits, and their worth
read_digits : (a : ℕ) (ds : List ℕ) (n : ℕ) → read_on a ds ≡ Some n → Digits ds × (worth a ds ≡ n)
read_digits a [] n e = (tt, some_same e)
read_digits a (c ∷ cs) n e =
    ⊎_elim (λ t. let r = read_digits (a * 10 + (c - 48)) cs n (sym (cond-true (is_digit_byte c) _ _ t) ∙ e) in ((is_digit c t, r.0), r.1))
    (λ f. absurd (some_none (sym e ∙ cond-false (is_digit_byte c) _ _ f))) (cases_Bool (is_digit_byte c))

digits_read : (a : ℕ) (ds : List ℕ) → Digits ds → read_on a ds ≡ Some (worth a ds)
digits_read a [] d = refl
digits_read a (c ∷ cs) d = cond-true (is_digit_byte c) _ _ (digit_is c d.0) ∙ digits_read (a * 10 + (c - 48)) cs d.1

capped_some : (o : Option ℕ) (n : ℕ) → capped o ≡ Some n → (o ≡ Some n) × (n ≤ 2147483647)
capped_some None n e = absurd (some_none (sym e))
capped_some (Some m) n e =
    ⊎_elim (λ t. let s = sym (cond-true (leb m 2147483647) _ _ t) ∙ e in let h = leb-true m 2147483647 t in let q = some_same s in (s, let k : n ≤ 2147483647 = omega arith in k))
    (λ f. absurd (some_none (sym e ∙ cond-false (leb m 2147483647) _ _ f))) (cases_Bool (leb m 2147483647))

-- digits that are taken write their number
magnitude_writes : (ds : List ℕ) (n : ℕ) → magnitude_of ds ≡ Some n → (ds ≡ decimal n) × (n ≤ 2147483647)
magnitude_writes ds n e =
    let sized = eqb (length ds) 0 || ltb 10 (length ds) in
    let led = eqb (get_or ds 0 0) 48 && ltb 1 (length ds) in
    ⊎_elim (λ t. absurd (some_none (sym e ∙ cond-true sized _ _ t)))
    (λ f. let e' = sym (cond-false sized _ _ f) ∙ e in
    let ne = eqb-false (length ds) 0 (or_parts _ _ f).0 in
    ⊎_elim (λ t. absurd (some_none (sym e' ∙ cond-true led _ _ t)))
    (λ g. let c = capped_some (read_on 0 ds) n (sym (cond-false led _ _ g) ∙ e') in
    let r = read_digits 0 ds n c.0 in
    let q = r.1 in
    let b = c.1 in
    let lead : get_or ds 0 0 ≡ 48 → length ds ≡ 1 = λ z. ⊎_elim (λ h. absurd (eqb-false (get_or ds 0 0) 48 h z)) (λ h. let l = ltb-false 1 (length ds) h in let k : length ds ≡ 1 = omega arith in k) (and_cases (eqb (get_or ds 0 0) 48) (ltb 1 (length ds)) g) in
    (sym (decimal-digits_value own ds r.0 (omega arith) lead (omega arith)) ∙ ap decimal q, b)) (cases_Bool led))
    (cases_Bool sized)

-- a number's writing is taken
writes_magnitude : (n : ℕ) → n ≤ 2147483647 → magnitude_of (decimal n) ≡ Some n
writes_magnitude n h =
    let small : n < 2 ^ 64 = omega arith in
    let some = decimal_nonempty n small in
    let short = length-decimal-le 10 n (omega arith) (omega arith) small in
    let lead : ((get_or (decimal n) 0 0 ≡ 48) × (length (decimal n) ≤ 1)) ⊎ (get_or (decimal n) 0 0 ≡ 48 → ⊥) =
    ⊎_elim (λ z. let w = ap decimal z ∙ decimal_digit 0 (omega arith) in inl (ap (λ (l : List ℕ). get_or l 0 0) w, let l = ap length w in let k : length (decimal n) ≤ 1 = omega arith in k))
    (λ nz. let f = first_decimal n (omega arith) small in inr (λ e. let k : ⊥ = omega arith in k)) (cases_eq n 0) in
    gate (decimal n) (λ e. let k : ⊥ = omega arith in k) short lead
    ∙ ap capped (digits_read 0 (decimal n) (digits_decimal own n small) ∙ ap (λ (m : ℕ). Some m) (digits_value-decimal own n small))
    ∙ cond-true (leb n 2147483647) _ _ (le-leb n 2147483647 h)

-- past the largest magnitude no digit leads back
too_large : (a : ℕ) (ds : List ℕ) → 2147483647 < a → capped (read_on a ds) ≡ None
too_large a [] h = cond-false (leb a 2147483647) _ _ (lt-leb _ _ h)
too_large a (c ∷ cs) h =
    ⊎_elim (λ t. ap capped (cond-true (is_digit_byte c) _ _ t) ∙ too_large (a * 10 + (c - 48)) cs (omega arith))
    (λ f. ap capped (cond-false (is_digit_byte c) _ _ f)) (cases_Bool (is_digit_byte c))

-- a digit that is not taken
pub ends_there : (a d : ℕ) (ds : List ℕ) → None ≡ followed a d → capped (read_on a (d ∷ ds)) ≡ None
ends_there a d ds e =
    let n = a * 10 + (d - 48) in
    ⊎_elim (λ t. ap capped (cond-true (is_digit_byte d) _ _ t) ∙ ⊎_elim
    (λ s. absurd (some_none (sym (e ∙ cond-true (is_digit_byte d) _ _ t ∙ cond-true (leb n 2147483647) _ _ s))))
    (λ b. too_large n ds (leb-false n 2147483647 b)) (cases_Bool (leb n 2147483647)))
    (λ f. ap capped (cond-false (is_digit_byte d) _ _ f)) (cases_Bool (is_digit_byte d))

-- at most ten digits that begin with 1 to 9
pub read_is : (ds : List ℕ) → 48 < get_or ds 0 0 → length ds ≤ 10 → capped (read_on 0 ds) ≡ magnitude_of ds
read_is [] h l = absurd (let k : ⊥ = omega arith in k)
read_is (c ∷ cs) h l = sym (gate (c ∷ cs) (λ e. absurd (let k : ⊥ = omega arith in k)) l (inr (λ e. let k : ⊥ = omega arith in k)))

minus_some : (o : Option ℕ) (z : ℤ) → minus o ≡ Some z → (k : ℕ) × (o ≡ Some (suc k)) × (negsuc k ≡ z)
minus_some None z e = absurd (some_none (sym e))
minus_some (Some zero) z e = absurd (some_none (sym e))
minus_some (Some (suc k)) z e = (k, refl, some_same (sym (cond-false (eqb (suc k) 0) _ _ (ne_eqb (suc k) 0 (λ q. let x : ⊥ = omega arith in x))) ∙ e))

plain_some : (o : Option ℕ) (z : ℤ) → plain o ≡ Some z → (n : ℕ) × (o ≡ Some n) × (pos n ≡ z)
plain_some None z e = absurd (some_none (sym e))
plain_some (Some n) z e = (n, refl, some_same e)

abbrev Written : List ℕ → ℤ → Type 0
Written field z = (nat_abs z ≤ 2147483647) × (field ≡ signed_decimal z)

said : (field : List ℕ) (z : ℤ) → number_of field ≡ Some z → Written field z
said [] z e = absurd (some_none (sym e))
said (c ∷ ds) z e =
    ⊎_elim (λ t. let m = minus_some (magnitude_of ds) z (sym (cond-true (eqb c 45) _ _ t) ∙ e) in
    let w = magnitude_writes ds (suc m.0) m.1 in
    subst (Written (c ∷ ds)) m.2 (w.1, ap (λ (b : ℕ). b ∷ ds) (eqb-true c 45 t) ∙ ap (λ (l : List ℕ). 45 ∷ l) w.0))
    (λ f. let m = plain_some (magnitude_of (c ∷ ds)) z (sym (cond-false (eqb c 45) _ _ f) ∙ e) in
    let w = magnitude_writes (c ∷ ds) m.0 m.1 in
    subst (Written (c ∷ ds)) m.2 (w.1, w.0)) (cases_Bool (eqb c 45))

first_digit : (ds : List ℕ) → Digits ds → 0 < length ds → 48 ≤ get_or ds 0 0
first_digit [] d h = absurd (let k : ⊥ = omega arith in k)
first_digit (c ∷ cs) d h = d.0.0

unsigned : (ds : List ℕ) → 0 < length ds → (get_or ds 0 0 ≡ 45 → ⊥) → number_of ds ≡ plain (magnitude_of ds)
unsigned [] h ne = absurd (let k : ⊥ = omega arith in k)
unsigned (c ∷ cs) h ne = cond-false (eqb c 45) _ _ (ne_eqb c 45 ne)

says_back : (z : ℤ) → nat_abs z ≤ 2147483647 → number_of (signed_decimal z) ≡ Some z
says_back (pos n) h =
    let small : n < 2 ^ 64 = omega arith in
    let some = decimal_nonempty n small in
    let first = first_digit (decimal n) (digits_decimal own n small) some in
    unsigned (decimal n) some (λ e. let k : ⊥ = omega arith in k) ∙ ap plain (writes_magnitude n h)
says_back (negsuc k) h = ap minus (writes_magnitude (suc k) h) ∙ cond-false (eqb (suc k) 0) _ _ (ne_eqb (suc k) 0 (λ q. let x : ⊥ = omega arith in x))

says_of : (field : List ℕ) (o : Option ℤ) → number_of field ≡ o → Says field o
says_of field None e = λ z h w. some_none (sym (says_back z h) ∙ sym (ap number_of w) ∙ e)
says_of field (Some z) e = said field z e

pub says : (field : List ℕ) (r : Option ℤ) → r ≡ number_of field → Says field r
says field r e = says_of field r (sym e)
