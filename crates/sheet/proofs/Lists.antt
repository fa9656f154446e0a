-- Lists of calls: what one more call adds, and what each check among them keeps.
use Rattle.std.proofs.Common.{◌≡◌, ℕ, zero, suc, ◌+◌, ◌<◌, eqb, List, [], ◌∷◌, ◌++◌, map, length, get_or, take, Result, fold, sym, refl, ap, ◌∙◌, ap₂, add-one, arith}
use mathlib.Core.List.{map-append}
use Rattle.std.proofs.lemmas.List.Sums.{fold_more}
use Rattle.std.proofs.lemmas.Bool.{cond_both}
use Rattle.sheet.specs.declared.call.Call.{Call}
use Rattle.sheet.specs.declared.call.Call.TheVariants.{Check}
use Rattle.refusal.specs.declared.Refusal.{Refusal}
use Rattle.leg.specs.declared.shapes.Point.{Point}
use Rattle.sheet.specs.declared.call.Success.{Success}
use Rattle.sheet.specs.Calls.{SheetData, empty_sheet, call_refusal, after, built}
use Rattle.sheet.specs.Standing.{Standing}
use Rattle.sheet.specs.Answers.{Answer, taken, replied, answer_of, answers_to, field_of}
use Rattle.sheet.specs.Kept.{alone, Kept}
use Rattle.sheet.specs.Ran.{Ran}
use Rattle.sheet.proofs.Standings.{built_standing}
use Rattle.sheet.proofs.Keeping.{kept_of, near_answer, alone_in_limit}

-- one call more
pub answers_more : (sheet : SheetData) (calls : List Call) (i : ℕ) (d : Call) → i < length calls →
    answers_to sheet (take (suc i) calls) ≡ answers_to sheet (take i calls) ++ (answer_of (fold after sheet (take i calls)) (get_or calls i d) ∷ [])
answers_more sheet [] i d i< = absurd (omega arith)
answers_more sheet (call ∷ calls) zero d i< = refl
answers_more sheet (call ∷ calls) (suc i) d i< = ap (λ (l : List Answer). answer_of sheet call ∷ l) (answers_more (after sheet call) calls i d (omega arith))

-- what is answered to a call of the list
answer_at : (sheet : SheetData) (before : List Call) (call : Call) (rest : List Call) (d : Answer) →
    get_or (answers_to sheet (before ++ (call ∷ rest))) (length before) d ≡ answer_of (fold after sheet before) call
answer_at sheet [] call rest d = refl
answer_at sheet (first ∷ before) call rest d = answer_at (after sheet first) before call rest d

pub ran_of : (calls : List Call) (answers : List Answer) (sheet : SheetData) → sheet ≡ built calls → answers ≡ answers_to empty_sheet calls → Ran calls answers sheet
ran_of calls answers sheet left answered = record {
  left = left;
  answered = answered;
  kept = λ before rest start end e.
      kept_of alone (built before) (built_standing before) tt start end _
      (ap (λ (l : List Answer). get_or l (length before) (taken 0)) (answered ∙ ap (answers_to empty_sheet) e)
      ∙ answer_at empty_sheet before (Check start end) rest (taken 0)
      ∙ near_answer (field_of (built before)) start end (alone_in_limit (built before) (built_standing before)));
}

-- a check leaves the sheet, and answers as the rules say of a check
pub check_leaves : (sheet : SheetData) (start end : Point) → sheet ≡ after sheet (Check start end)
check_leaves sheet start end = cond_both {A = SheetData} (eqb (call_refusal sheet (Check start end)) 0) sheet sheet (λ (s : SheetData). sheet ≡ s) (λ _. refl) (λ _. refl)

pub check_answers : (sheet : SheetData) → Standing sheet → (start end : Point) (answer : Answer) → Kept alone sheet start end answer → answer ≡ answer_of sheet (Check start end)
check_answers sheet ok start end answer kept = kept.exact ∙ sym (near_answer (field_of sheet) start end (alone_in_limit sheet ok))

-- what one turn of the loop over the calls adds
module _ (calls : List Call) (i : ℕ) (i< : i < length calls) (before : SheetData) (d : Call) (was : before ≡ fold after empty_sheet (take i calls)) where
  pub sheet_next : (left : SheetData) → left ≡ after before (get_or calls i d) → left ≡ fold after empty_sheet (take (i + 1) calls)
  sheet_next left e = e ∙ ap (λ (s : SheetData). after s (get_or calls i d)) was ∙ sym (fold_more after empty_sheet calls i d i<)

  pub answers_next : (replies more : List (Result Success Refusal)) (reply : Result Success Refusal) → map replied replies ≡ answers_to empty_sheet (take i calls) → more ≡ replies ++ (reply ∷ []) →
      replied reply ≡ answer_of before (get_or calls i d) → map replied more ≡ answers_to empty_sheet (take (i + 1) calls)
  answers_next replies more reply so_far e answer =
      ap (map replied) e
      ∙ map-append replied replies (reply ∷ [])
      ∙ ap₂ (λ (l : List Answer) (a : Answer). l ++ (a ∷ [])) so_far (answer ∙ ap (λ (s : SheetData). answer_of s (get_or calls i d)) was)
      ∙ sym (ap (λ (n : ℕ). answers_to empty_sheet (take n calls)) (add-one i) ∙ answers_more empty_sheet calls i d i<)
