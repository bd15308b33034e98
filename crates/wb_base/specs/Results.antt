-- Steps of which each may be refused.
use Rattle.std.specs.Prelude.{Result, Ok, Err}

-- the next step, with the value of the first; the first refusal ends them
abbrev pub ◌>>=◌ : {A B E : Type 0} → Result A E → (A → Result B E) → Result B E
(Ok v) >>= next = next v
(Err e) >>= next = Err e

infixl 20 ◌>>=◌
