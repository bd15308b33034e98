use Rattle.std.proofs.Common.{◌≡◌, List, ℕ, take}
use Rattle.std.specs.List.{position}
use Rattle.wb_ecore.specs.Naming.{same_name}
use Rattle.wb_ecore.specs.invariants.NumberedNames.{number_of}
use Rattle.wb_ecore.proofs.numbered_names.NumberedNames.of.Given as goal

abbrev pub invariant-loop-number : goal.invariant-loop-number
invariant-loop-number g l = (name : List ℕ) → number_of l.names name ≡ position (λ item. same_name (g.T.Named.name_of item) name) (take l.number l.items)
