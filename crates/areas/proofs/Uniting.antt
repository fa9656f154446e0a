-- Joining one area after the other, where what the nodes give is known up to a number that every area stands below.
use Rattle.std.proofs.Common.{◌≡◌, ℕ, zero, suc, ◌+◌, ◌<◌, ◌≤◌, cond, List, [], ◌∷◌, length, get_or, take, Some, None, Option, sym, refl, ap, ◌∙◌, subst, arith, take_all}
use Rattle.std.proofs.lemmas.List.Sums.{fold_more}
use Rattle.areas.specs.declared.area.Area.{Area}
use Rattle.areas.specs.Table.{needed, AllStand}
use Rattle.areas.specs.Fields.{joined, united}
use Rattle.areas.specs.Uniting.{CanJoin, AllCanJoin}

-- ---- a loop over the slots

module _ {X : Type 0} (join : X → X → X) (given : ℕ → X) (start : X) (slots : List (Option Area)) (i : ℕ) {x : X} (before : x ≡ united join given start (take i slots)) where
  pub next_can : (can : X → ℕ → Type 0) → AllCanJoin can join given start slots → i < length slots → CanJoin can x (get_or slots i None)
  next_can can all i< = subst (λ (y : X). CanJoin can y (get_or slots i None)) (sym before) (all i i<)

  pub next_united : {y : X} → i < length slots → y ≡ joined join given x (get_or slots i None) → y ≡ united join given start (take (i + 1) slots)
  next_united i< step = step ∙ ap (λ (z : X). joined join given z (get_or slots i None)) before ∙ sym (fold_more (joined join given) start slots i None i<)

  pub all_united : length slots ≤ i → x ≡ united join given start slots
  all_united h = before ∙ ap (united join given start) (take_all i slots h)

-- ---- what is known of the nodes that the areas have

-- the first i areas
pub first_stand : (n i : ℕ) (slots : List (Option Area)) → AllStand n slots → AllStand n (take i slots)
first_stand n zero slots all k = omega arith
first_stand n (suc i) [] all k = omega arith
first_stand n (suc i) (slot ∷ slots) all zero = all 0
first_stand n (suc i) (slot ∷ slots) all (suc k) = first_stand n i slots (λ j. all (suc j)) k

module _ {X : Type 0} (n : ℕ) (join : X → X → X) (given known : ℕ → X) (same : (k : ℕ) → k < n → given k ≡ known k) where
  joined_same : (x : X) (slot : Option Area) → needed slot ≤ n → joined join given x slot ≡ joined join known x slot
  joined_same x None h = refl
  joined_same x (Some a) h = ap (λ (y : X). cond a.on (join x y) x) (same a.node (omega arith))

  pub united_same : (start : X) (slots : List (Option Area)) → AllStand n slots → united join given start slots ≡ united join known start slots
  united_same start [] all = refl
  united_same start (slot ∷ slots) all =
      united_same (joined join given start slot) slots (λ k. all (suc k)) ∙ ap (λ (x : X). united join known x slots) (joined_same start slot (all 0))

  pub united_known : (start : X) (slots : List (Option Area)) → AllStand n slots → {r : X} → r ≡ united join given start slots → r ≡ united join known start slots
  united_known start slots all e = e ∙ united_same start slots all

  slot_can : (can : X → ℕ → Type 0) (x : X) (slot : Option Area) → needed slot ≤ n → ((k : ℕ) → k < n → can x k) → CanJoin can x slot
  slot_can can x None h each = tt
  slot_can can x (Some a) h each = each a.node (omega arith)

  -- each node below n can be joined to the first areas
  pub all_can_join : (can : X → ℕ → Type 0) (start : X) (slots : List (Option Area)) → AllStand n slots → ((i k : ℕ) → k < n → can (united join known start (take i slots)) k) →
      AllCanJoin can join given start slots
  all_can_join can start slots all each i i< =
      subst (λ (x : X). CanJoin can x (get_or slots i None)) (sym (united_same start (take i slots) (first_stand n i slots all)))
      (slot_can can (united join known start (take i slots)) (get_or slots i None) (all i) (each i))
