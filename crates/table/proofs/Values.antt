-- The fields of a line one after another, and the values that are found in them.
use Rattle.std.proofs.Common.{◌≡◌, ℕ, ◌+◌, ◌<◌, ◌≤◌, List, [], length, get_or, set, drop, ℤ, pos, is_some, Some, None, Ok, Err, Option, sym, refl, ap, ◌∙◌, subst, ⊎_elim, arith, length-set}
use Rattle.std.specs.Iterator.{YieldsFirstRef}
use Rattle.std.specs.Iterator.Adapters.{enumerate_source, enumerate_count, enumerate_steps}
use Rattle.std.specs.List.{enumerate_from}
use Rattle.std.specs.Option.{ok_or}
use Rattle.std.specs.declared.iter.Enumerate.{Enumerate}
use Rattle.std.proofs.lemmas.Iterator.{YieldsList}
use Rattle.std.proofs.lemmas.Iterator.Consumers.{YieldsList-from_first, YieldsList-from_enumerate, YieldsList-at}
use Rattle.std.proofs.lemmas.List.{at_drop_more, at_drop_all, get_or_default, get_or_past}
use Rattle.std.proofs.lemmas.List.FromFn.{length-enumerate_from, get_or-enumerate_from}
use Rattle.std.proofs.lemmas.Bool.{cond-true, cond-false, cases_lt}
use Rattle.table.specs.declared.parts.Fields.{Fields}
use Rattle.table.specs.Text.{fields_in}
use Rattle.table.specs.Number.{number_of}
use Rattle.table.specs.Reading.{first_not, good_value, value_of, or_zero}
use Rattle.std.proofs.lemmas.List.Edits.{fill_by_more}
use Rattle.table.proofs.Fills.{above_set}

-- the fields that come, each with its place
pub numbered : (s : Enumerate Fields) (f : Fields) (fs : List (List ℕ)) → enumerate_source s ≡ f → enumerate_count s ≡ 0 → fields_in f.rest ≡ fs
    → YieldsList (enumerate_steps (YieldsFirstRef (λ (t : Fields). fields_in t.rest))) (λ p. (p.0, p.1.now)) s (enumerate_from 0 fs)
numbered s f fs e z all = YieldsList-from_enumerate (YieldsList-at e (YieldsList-from_first (λ x. x.now) (λ (t : Fields). fields_in t.rest) fs all)) z

pub turn_at : (fs : List (List ℕ)) (n place : ℕ) (field : List ℕ) → (n < length (enumerate_from 0 fs)) × (◌≡◌ {A = ℕ × List ℕ} (place, field) (get_or (enumerate_from 0 fs) n (place, field))) → (n < length fs) × (place ≡ n) × (field ≡ get_or fs n [])
turn_at fs n place field t =
    let l = length-enumerate_from 0 fs in
    let lt : n < length fs = omega (arith, t.0) in
    let e = t.1 ∙ get_or-enumerate_from 0 fs n (place, field) lt in
    let z = ap (λ (p : ℕ × List ℕ). p.0) e in
    (lt, omega arith, ap (λ (p : ℕ × List ℕ). p.1) e ∙ get_or_default fs n field [] lt)

-- what `ok_or` was given
pub was_some : {A E : Type 0} (o : Option A) (f : E) (v : A) → ok_or o f ≡ Ok v → o ≡ Some v
was_some None f v e = cc
was_some (Some x) f v e = cc

pub was_none : {A E : Type 0} (o : Option A) (f g : E) → ok_or o f ≡ Err g → (o ≡ None) × (g ≡ f)
was_none None f g e = (refl, cc)
was_none (Some x) f g e = (cc, cc)

-- of the fields so far the values stand in their places, and the rest decides whether all are good
pub record Read (n : ℕ) (found : List ℤ) (fs : List (List ℕ)) : Type 0 where
  pub rest : first_not good_value n (drop n fs) ≡ first_not good_value 0 fs
  pub long : length found ≡ 13
  pub told : (k : ℕ) → k < n → get_or found k (pos 0) ≡ value_of (get_or fs k [])
  pub clear : (k : ℕ) → n ≤ k → get_or found k (pos 0) ≡ pos 0

module _ (n : ℕ) (found : List ℤ) (fs : List (List ℕ)) (r : Read n found fs) where
  pub read_more : (m place : ℕ) (v z : ℤ) → n < length fs → length fs ≤ 13 → m ≡ n + 1 → place ≡ n → number_of (get_or fs n []) ≡ Some v → z ≡ v → Read m (set found place z) fs
  read_more m place v z h few em ep e ez =
      let value : ℕ → ℤ = λ k. value_of (get_or fs k []) in
      let room : n < length found = omega (arith, r.long) in
      let here : Read (n + 1) (set found n (value n)) fs = record {
        rest = sym (at_drop_more (first_not good_value n) fs n [] h ∙ cond-true _ _ _ (ap is_some e)) ∙ r.rest;
        long = simp length-set r.long;
        told = fill_by_more value found n (pos 0) room r.told;
        clear = above_set found n (value n) r.clear;
      } in
      rw (em, ep, ez) (subst (λ (y : ℤ). Read (n + 1) (set found n y) fs) (ap or_zero e) here)

  pub read_bad : n < length fs → number_of (get_or fs n []) ≡ None → first_not good_value 0 fs ≡ Some (n + 1)
  read_bad h e = sym r.rest ∙ at_drop_more (first_not good_value n) fs n [] h ∙ cond-false _ _ _ (ap is_some e)

  pub read_all : n ≡ length fs → (first_not good_value 0 fs ≡ None) × ((k : ℕ) → get_or found k (pos 0) ≡ value_of (get_or fs k []))
  read_all e = (
    sym r.rest ∙ at_drop_all (first_not good_value n) fs n (omega arith),
    λ k. ⊎_elim (λ lt. r.told k lt) (λ ge. r.clear k ge ∙ sym (ap value_of (get_or_past fs k [] (omega arith)))) (cases_lt k n),
  )
