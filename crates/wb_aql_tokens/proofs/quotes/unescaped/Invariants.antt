use Rattle.std.proofs.Common.{◌≡◌, ℕ, List, ◌++◌, length}
use Rattle.wb_aql_tokens.specs.Lexes.{Means}
use Rattle.wb_aql_tokens.proofs.quotes.unescaped.Given as goal

-- the value so far is what the bytes before the rest mean
abbrev pub invariant-loop-meaning : goal.invariant-loop-meaning
invariant-loop-meaning l = (front : List ℕ) × (l.bytes ≡ front ++ l.rest) × Means front l.value

abbrev pub decreases-loop-meaning : goal.decreases-loop-meaning
decreases-loop-meaning l = length l.rest
