-- A text that is stopped tells its fault.
use Rattle.std.proofs.Common.{◌≡◌, ℕ, List, ◌++◌, vec_items, Some, Ok, ap, ◌∙◌}
use Rattle.files.specs.declared.file.FileFault.{FileFault}
use Rattle.files.specs.declared.error.LoadError.{LoadError}
use Rattle.files.specs.declared.error.LoadError.TheVariants.{Fault, Alloc}
use Rattle.files.specs.declared.output.Output.{Output}
use Rattle.files.specs.Errors.{outcome_of}
use Rattle.files.specs.Files.{fault_text}
use Rattle.files.specs.Outputs.{Tells}

pub told : (text : List ℕ) (error : LoadError) (fault : FileFault) (code : Output) → Ok fault ≡ outcome_of error →
    vec_items code.text ≡ text ++ fault_text fault.file fault.fault → code.fault ≡ Some fault → Tells text error code
told text (Fault f) fault code e t k =
    let same : fault ≡ f = cc in
    record { text = t ∙ ap (λ (g : FileFault). text ++ fault_text g.file g.fault) same; fault = k ∙ ap Some same }
told text (Alloc a) fault code e t k = cc
