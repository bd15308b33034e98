use Rattle.std.proofs.Common.{◌≡◌, ℕ, List, take}
use Rattle.std.specs.List.{position}
use Rattle.wb_base.specs.Names.{same_name}
use Rattle.wb_ecore.specs.invariants.NumberedNames.{number_of}
use Rattle.wb_spec_check.proofs.own_names.numbered.Given as goal

-- the names of the items so far
abbrev pub invariant-loop-number : goal.invariant-loop-number
invariant-loop-number g l = (name : List ℕ) → number_of l.names name ≡ position (λ item. same_name (g.T.Titled.title item) name) (take l.number l.items)
