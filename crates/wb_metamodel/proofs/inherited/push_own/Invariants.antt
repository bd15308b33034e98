use Rattle.std.proofs.Common.{◌≡◌, ◌++◌}
use Rattle.std.specs.List.{filter}
use Rattle.wb_metamodel.specs.Metamodel.{numbers}
use Rattle.wb_metamodel.proofs.Inherit.{is_owned}
use Rattle.wb_metamodel.proofs.inherited.push_own.Given as goal

abbrev pub invariant-loop-number : goal.invariant-loop-number
invariant-loop-number l = l.all.items ≡ l.initial.all.items ++ filter (is_owned l.elements l.class) (numbers l.number)
