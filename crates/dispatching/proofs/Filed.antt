-- A line says "may be filed" only for a check that is answered clear.
use Rattle.std.proofs.Common.{◌≡◌, ℕ, Bool, true, false, cond, eqb, List, [], ◌∷◌, ◌++◌, codes, reverse, length, get_or, fold, sym, refl, ap, ◌∙◌, subst, append_assoc, arith}
use Rattle.std.proofs.lemmas.List.{reverse-append}
use Rattle.std.proofs.lemmas.Bool.{cond-true, eq-eqb}
use Rattle.leg.specs.declared.shapes.Point.{Point}
use Rattle.leg_check.specs.Promise.{Row}
use Rattle.sheet.specs.declared.call.Call.{Call}
use Rattle.sheet.specs.declared.call.Call.TheVariants.{Add, TakeBack, Publish, Switch, Strike, Check}
use Rattle.sheet.specs.Calls.{SheetData, empty_sheet, after, built}
use Rattle.sheet.specs.Answers.{Answer, taken, refused, checked, answer_of, answers_to}
use Rattle.sheet.specs.Ran.{Ran}
use Rattle.dispatching.specs.declared.line.Ending.{Ending}
use Rattle.dispatching.specs.declared.line.Ending.TheVariants.{Done, Unchanged, MayBeFiled, NotToBeFiled}
use Rattle.dispatching.specs.Lines.{asked, answered, change_of, ending_of, words_of, line_of, text_of, report_of}
use Rattle.dispatching.specs.Filing.{SaysFiled, line_after, ClearLeg, OnlyClear}

-- ---- the last words of a line

-- two texts that are equal are so from their ends
from_the_end : (a b v w : List ℕ) → a ++ v ≡ b ++ w → reverse v ++ reverse a ≡ reverse w ++ reverse b
from_the_end a b v w e = sym (reverse-append a v) ∙ ap reverse e ∙ reverse-append b w

by_ending : (front : List ℕ) (e : Ending) → SaysFiled (front ++ (words_of e ++ codes "\n")) → e ≡ MayBeFiled
by_ending front Done says = let h = from_the_end front says.0 (codes ", done\n") (codes "may be filed\n") says.1 in let z : ◌≡◌ {A = ℕ} 101 100 = ap (λ (l : List ℕ). get_or l 1 0) h in absurd (omega arith)
by_ending front Unchanged says = let h = from_the_end front says.0 (codes ", nothing changed\n") (codes "may be filed\n") says.1 in let z : ◌≡◌ {A = ℕ} 103 108 = ap (λ (l : List ℕ). get_or l 3 0) h in absurd (omega arith)
by_ending front MayBeFiled says = refl
by_ending front NotToBeFiled says = let h = from_the_end front says.0 (codes ": not to be filed\n") (codes "may be filed\n") says.1 in let z : ◌≡◌ {A = ℕ} 111 121 = ap (λ (l : List ℕ). get_or l 10 0) h in absurd (omega arith)

in_front : (a b c d : List ℕ) → a ++ (b ++ (c ++ d)) ≡ (a ++ (b ++ c)) ++ d
in_front a b c d = sym (simp append_assoc)

module _ (call : Call) (answer : Answer) where
  front_of : List ℕ
  front_of = asked call ++ (codes ": " ++ answered call answer)

  parted : line_of call answer ≡ front_of ++ (words_of (ending_of call answer) ++ codes "\n")
  unfolding front_of
  parted = in_front (asked call) (codes ": ") (answered call answer) (words_of (ending_of call answer) ++ codes "\n")

  says_may : SaysFiled (line_of call answer) → ending_of call answer ≡ MayBeFiled
  says_may says = by_ending front_of (ending_of call answer) (subst SaysFiled parted says)

  may_says : ending_of call answer ≡ MayBeFiled → SaysFiled (line_of call answer)
  may_says e = (front_of ++ codes ": ", parted ∙ ap (λ (x : Ending). front_of ++ (words_of x ++ codes "\n")) e ∙ sym (append_assoc front_of (codes ": ") (codes "may be filed\n")))

-- ---- which call and answer it is

record IsClear (call : Call) (answer : Answer) : Type 0 where
  start : Point
  end : Point
  is_check : call ≡ Check start end
  row : Row
  found : answer ≡ checked row
  clear : row.answer ≡ 0

no_check : (answer : Answer) → change_of answer ≡ MayBeFiled → ⊥
no_check (taken n) e = cc
no_check (refused n) e = cc
no_check (checked row) e = cc

is_clear : (call : Call) (answer : Answer) → ending_of call answer ≡ MayBeFiled → IsClear call answer
is_clear (Add node) answer e = absurd (no_check answer e)
is_clear TakeBack answer e = absurd (no_check answer e)
is_clear (Publish area node on) answer e = absurd (no_check answer e)
is_clear (Switch area on) answer e = absurd (no_check answer e)
is_clear (Strike area) answer e = absurd (no_check answer e)
is_clear (Check start end) (taken n) e = absurd (cc)
is_clear (Check start end) (refused n) e = absurd (cc)
is_clear (Check start end) (checked row) e = record { start = start; end = end; is_check = refl; row = row; found = refl; clear = zero_if (eqb row.answer 0) refl e }
  where
    zero_if : (b : Bool) → eqb row.answer 0 ≡ b → cond b MayBeFiled NotToBeFiled ≡ MayBeFiled → row.answer ≡ 0
    zero_if true t e = grind arith
    zero_if false t e = absurd (cc)

-- ---- the lines of a list of calls

answer_at : (sheet : SheetData) (before : List Call) (call : Call) (rest : List Call) (d : Answer) →
    get_or (answers_to sheet (before ++ (call ∷ rest))) (length before) d ≡ answer_of (fold after sheet before) call
answer_at sheet [] call rest d = refl
answer_at sheet (first ∷ before) call rest d = answer_at (after sheet first) before call rest d

-- the lines of the calls after a sheet
lines_from : SheetData → List Call → List ℕ
lines_from sheet calls = text_of calls (answers_to sheet calls)

lines_parted : (sheet : SheetData) (before : List Call) (call : Call) (rest : List Call) →
    lines_from sheet (before ++ (call ∷ rest)) ≡ lines_from sheet before ++ (line_of call (answer_of (fold after sheet before) call) ++ lines_from (after (fold after sheet before) call) rest)
unfolding lines_from
lines_parted sheet [] call rest = refl
lines_parted sheet (first ∷ before) call rest =
    ap (λ (t : List ℕ). line_of first (answer_of sheet first) ++ t) (lines_parted (after sheet first) before call rest) ∙ sym (append_assoc (line_of first (answer_of sheet first)) _ _)

module _ (calls : List Call) (answers : List Answer) (sheet : SheetData) (ran : Ran calls answers sheet) (before rest : List Call) (call : Call) (parts : calls ≡ before ++ (call ∷ rest)) where
  stands : (more : List ℕ) × (report_of calls ≡ report_of before ++ (line_after before call ++ more))
  unfolding lines_from
  stands = (lines_from (after (built before) call) rest, ap (lines_from empty_sheet) parts ∙ lines_parted empty_sheet before call rest)

  same_answer : get_or answers (length before) (taken 0) ≡ answer_of (built before) call
  same_answer = ap (λ (l : List Answer). get_or l (length before) (taken 0)) (ran.answered ∙ ap (answers_to empty_sheet) parts) ∙ answer_at empty_sheet before call rest (taken 0)

  filed : SaysFiled (line_after before call) → ClearLeg (built before) call
  filed says =
      let it = is_clear call (answer_of (built before) call) (says_may call (answer_of (built before) call) says) in
      let kept = ran.kept before rest it.start it.end (parts ∙ ap (λ (c : Call). before ++ (c ∷ rest)) it.is_check) in
      let shown = kept.verdict it.row (same_answer ∙ it.found) in
      record {
        start = it.start;
        end = it.end;
        is_check = it.is_check;
        row = it.row;
        answer = it.found;
        clear = it.clear;
        leg = shown.leg;
        joins = shown.joins;
        free = shown.promise.clear it.clear;
        outside = shown.outside it.clear;
      }

clear_ending : (start end : Point) (row : Row) → row.answer ≡ 0 → ending_of (Check start end) (checked row) ≡ MayBeFiled
clear_ending start end row e = cond-true (eqb row.answer 0) MayBeFiled NotToBeFiled (eq-eqb row.answer 0 e)

pub only_clear : (calls : List Call) (answers : List Answer) (sheet : SheetData) → Ran calls answers sheet → OnlyClear calls (report_of calls)
only_clear calls answers sheet ran = record {
  stands = stands calls answers sheet ran;
  filed = filed calls answers sheet ran;
  each = λ before rest start end row parts found clear.
      may_says (Check start end) (answer_of (built before) (Check start end)) (ap (ending_of (Check start end)) found ∙ clear_ending start end row clear);
}
