-- What two variants of an `Option` or a `Result` tell apart, and what one holds.
use Rattle.std.proofs.Common.{◌≡◌, Some, None, Ok, Err, Result}

pub some_none : {A : Type 0} {a : A} → Some a ≡ None → ⊥
some_none e = cc

pub some_same : {A : Type 0} {a b : A} → Some a ≡ Some b → a ≡ b
some_same e = cc

pub err_ok : {A B : Type 0} {a : A} {b : B} → ◌≡◌ {A = Result A B} (Err b) (Ok a) → ⊥
err_ok e = cc

pub ok_same : {A B : Type 0} {a b : A} → ◌≡◌ {A = Result A B} (Ok a) (Ok b) → a ≡ b
ok_same e = cc
