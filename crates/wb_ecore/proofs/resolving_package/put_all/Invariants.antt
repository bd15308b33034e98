use Rattle.std.proofs.Common.{◌≡◌, ◌++◌}
use Rattle.wb_ecore.proofs.resolving_package.put_all.Given as goal

abbrev pub invariant-loop-feature : goal.invariant-loop-feature
invariant-loop-feature l = l.features.items ≡ l.initial.features.items ++ l.yielded
