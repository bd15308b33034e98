-- Answers of steps one after the other.
use Rattle.std.proofs.Common.{◌≡◌, Result, Err, sym, subst}
use Rattle.wb_base.specs.Answering.{AsDefined}
use Rattle.wb_base.specs.Results.{◌>>=◌}
use Rattle.wb_base.proofs.Answered.{answered_first}
use Rattle.wb_json.specs.Place.{Place}
use Rattle.wb_json.specs.Refusals.{code_at}
use Rattle.wb_json.specs.declared.file_refusal.FileRefusal.{FileRefusal}

-- what the first step refuses is refused
pub refused : {A B C : Type 0} (r : Result B (FileRefusal C)) (e refusal : FileRefusal C) (a : Result A (C × Place)) (next : A → Result B (C × Place)) → r ≡ Err e → e ≡ refusal → AsDefined {A = A} code_at a (Err refusal) → AsDefined code_at (a >>= next) r
refused {B = B} r e refusal a next p q h =
    subst (AsDefined code_at (a >>= next)) (sym p) (subst (λ e. AsDefined {A = B} code_at (a >>= next) (Err e)) (sym q) (answered_first code_at a next refusal h))
