-- What a program writes, beside the code's own text.
use Rattle.std.specs.Prelude.{◌≡◌, ℕ, Bool, List, [], ◌++◌, is_some, Some, None, Ok, Err, vec_items, Option, Result}
use Rattle.files.specs.declared.file.FileFault.{FileFault}
use Rattle.files.specs.declared.error.LoadError.{LoadError}
use Rattle.files.specs.declared.error.LoadError.TheVariants.{Fault, Alloc}
use Rattle.files.specs.declared.output.Output.{Output as Code}
use Rattle.files.specs.Files.{fault_text}

-- what is written, and the fault that it ends with, if there is one
pub record Output : Type 0 where
  pub text : List ℕ
  pub fault : Option FileFault

-- whether it ends with a fault
abbrev pub faulty : Output → Bool
faulty o = is_some o.fault

-- a text, and behind it the fault of a file
abbrev pub ended_by : List ℕ → FileFault → Output
ended_by text f = record { text = text ++ fault_text f.file f.fault; fault = Some f }

abbrev pub fault_alone : FileFault → Output
fault_alone f = ended_by [] f

-- the same with a text before it
abbrev pub behind : List ℕ → Output → Output
behind text o = record { text = text ++ o.text; fault = o.fault }

-- a text that is written as far as it goes, and the fault that stops it, if one does, make this output; want of memory says nothing
abbrev pub Makes : {X : Type 0} → Output → List ℕ → Result X LoadError → Type 0
Makes output text (Ok x) = output ≡ record { text = text; fault = None }
Makes output text (Err (Fault f)) = output ≡ ended_by text f
Makes output text (Err (Alloc e)) = Unit {0}

-- the code's output is this one
pub record Written (output : Output) (code : Code) : Type 0 where
  pub text : vec_items code.text ≡ output.text
  pub fault : code.fault ≡ output.fault

-- the output, or the fault that stands for it; want of memory says nothing
abbrev pub Writes : Output → Result Code LoadError → Type 0
Writes output (Ok code) = Written output code
Writes output (Err (Fault f)) = output ≡ fault_alone f
Writes output (Err (Alloc e)) = Unit {0}

-- what is written where a text is stopped: the fault behind it; nothing for want of memory
abbrev pub Tells : List ℕ → LoadError → Code → Type 0
Tells text (Fault f) code = Written (ended_by text f) code
Tells text (Alloc e) code = ⊥
