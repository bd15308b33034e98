-- What a call answers, beside what its definition gives.
use Rattle.std.specs.Prelude.{◌≡◌, ⊤, Option, Some, None, Result, Ok, Err}

-- the definition gives this refusal; where none is named, it may give anything
abbrev pub IsRefusal : {A R : Type 0} → Option R → Result A R → Type 0
IsRefusal (Some refusal) given = given ≡ Err refusal
IsRefusal None given = ⊤

-- The result of the code is what the definition gives: its value, or the refusal that the code's error names.
-- An error that names none is want of memory, and says nothing of the definition.
abbrev pub AsDefined : {A E R : Type 0} → (E → Option R) → Result A R → Result A E → Type 0
AsDefined named given (Ok v) = given ≡ Ok v
AsDefined named given (Err e) = IsRefusal (named e) given
