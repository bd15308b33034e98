use Rattle.std.proofs.Common.{◌≡◌, ℕ, List, map, take, Bor}
use Rattle.wb_spec_check.proofs.scope_texts.scope_of.Given as goal

abbrev pub invariant-loop-word : goal.invariant-loop-word
invariant-loop-word l = l.scope ≡ map (λ (word : Bor (List ℕ)). word.now) (take l.word-index l.words)
