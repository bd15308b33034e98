-- What follows from an answer that is as it is defined.
use Rattle.std.proofs.Common.{◌≡◌, Option, Some, None, Result, Ok, Err, sym, ap, subst}
use Rattle.wb_base.specs.Answering.{AsDefined, IsRefusal}
use Rattle.wb_base.specs.Results.{◌>>=◌}

-- a value is the definition's
pub answered_ok : {A E R : Type 0} (named : E → Option R) (given : Result A R) (result : Result A E) (v : A) → result ≡ Ok v → AsDefined named given result → given ≡ Ok v
answered_ok named given result v is answered = subst (AsDefined named given) is answered

-- a named refusal is the definition's
pub answered_refusal : {A E R : Type 0} (named : E → Option R) (given : Result A R) (result : Result A E) (e : E) (refusal : R) → result ≡ Err e → named e ≡ Some refusal → AsDefined named given result → given ≡ Err refusal
answered_refusal {A} {E} {R} named given result e refusal is name answered =
    subst (λ (o : Option R). IsRefusal {A = A} o given) name (subst (AsDefined named given) is answered)

refused_on : {A B R : Type 0} (o : Option R) (given : Result A R) (next : A → Result B R) → IsRefusal o given → IsRefusal o (given >>= next)
refused_on (Some refusal) given next is = ap (λ r. r >>= next) is
refused_on None given next is = tt

-- the refusal of a first step is that of all steps
pub answered_first : {A B E R : Type 0} (named : E → Option R) (given : Result A R) (next : A → Result B R) (e : E) → AsDefined {A = A} named given (Err e) → AsDefined {A = B} named (given >>= next) (Err e)
answered_first named given next e answered = refused_on (named e) given next answered

-- after a first step's value, the answer of the rest is that of all steps
pub answered_then : {A B E R : Type 0} (named : E → Option R) (given : Result A R) (next : A → Result B R) (v : A) (rest : Result B E) → given ≡ Ok v → AsDefined named (next v) rest → AsDefined named (given >>= next) rest
answered_then named given next v rest is answered = subst (λ whole. AsDefined named whole rest) (sym (ap (λ r. r >>= next) is)) answered

-- an answer is as another definition says that gives the same
pub answered_same : {A E R : Type 0} (named : E → Option R) (given other : Result A R) (result : Result A E) → given ≡ other → AsDefined named given result → AsDefined named other result
answered_same named given other result same answered = subst (λ whole. AsDefined named whole result) same answered
