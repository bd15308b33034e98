-- Steps of which each may find nothing.
use Rattle.std.specs.Prelude.{Option, Some, None}

-- the next step, with what the first found
abbrev pub ◌>>=◌ : {A B : Type 0} → Option A → (A → Option B) → Option B
None >>= next = None
(Some v) >>= next = next v

infixl 20 ◌>>=◌
