use Rattle.std.proofs.Common.{◌≡◌, map}
use Rattle.std.specs.List.{flat_map}
use Rattle.wb_ecore.specs.declared.resolving.ResolvedClass.{ResolvedClass}
use Rattle.wb_ecore.proofs.resolving_package.elements.Given as goal

abbrev pub invariant-loop-class : goal.invariant-loop-class
invariant-loop-class l =
    (l.classes.items ≡ map (λ (c : ResolvedClass). c.class) l.yielded) × (l.features.items ≡ flat_map (λ (c : ResolvedClass). c.features) l.yielded)
