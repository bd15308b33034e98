-- Asking where there is a limit on how many may be declared.
use Rattle.std.proofs.Common.{ℕ, List, inl}
use Rattle.std.specs.Prelude.{Result, Ok, Err, IsErr, IsErrAnd}
use Rattle.wb_diagram.specs.declared.units.Unit.{Unit}
use Rattle.wb_answers.specs.declared.answers.Stop.{Stop}
use Rattle.wb_answers.specs.Seen.{Seen, Asks}
use Rattle.wb_answers.specs.Limits.{AsksUpTo}

-- a refusal that is no matter of the limit
pub up_to : {A : Type 0} (s now : Seen) (all : List Unit) (n : ℕ) (r : Result A Stop) (P : Stop → Type 0) → IsErr r × IsErrAnd r P → Asks s all r now → AsksUpTo s all n r now
up_to s now all n (Ok x) P h asks = absurd h.1
up_to s now all n (Err e) P h asks = record { stopped = asks.stopped; large = λ same. inl (asks.large same) }
