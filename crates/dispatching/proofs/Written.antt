-- The text is whole when no call is left.
use Rattle.std.proofs.Common.{◌≡◌, ℕ, List, [], ◌∷◌, ◌++◌, map, Result, sym, refl, ap, ◌∙◌}
use Rattle.std.proofs.lemmas.List.{append-nil}
use Rattle.refusal.specs.declared.Refusal.{Refusal}
use Rattle.sheet.specs.declared.call.Call.{Call}
use Rattle.sheet.specs.declared.call.Success.{Success}
use Rattle.sheet.specs.Answers.{replied}
use Rattle.dispatching.specs.Lines.{text_of}
use mathlib.Core.Logic.{◌⊎◌, inl, inr}

no_line : (calls : List Call) (replies : List (Result Success Refusal)) → (calls ≡ []) ⊎ (replies ≡ []) → text_of calls (map replied replies) ≡ []
no_line calls replies (inl e) = ap (λ (l : List Call). text_of l (map replied replies)) e
no_line [] replies (inr e) = refl
no_line (call ∷ calls) replies (inr e) = ap (λ (l : List (Result Success Refusal)). text_of (call ∷ calls) (map replied l)) e

pub whole_at_end : (text whole : List ℕ) (calls : List Call) (replies : List (Result Success Refusal)) → (calls ≡ []) ⊎ (replies ≡ []) →
    text ++ text_of calls (map replied replies) ≡ whole → text ≡ whole
whole_at_end text whole calls replies none e = sym (append-nil text) ∙ ap (λ (l : List ℕ). text ++ l) (sym (no_line calls replies none)) ∙ e
