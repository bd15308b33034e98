use Rattle.std.proofs.Common.{◌≡◌, map, take}
use Rattle.wb_ecore.specs.Resolving.{enumeration_of}
use Rattle.wb_ecore.proofs.resolving_package.enumerations.Given as goal

abbrev pub invariant-loop-part : goal.invariant-loop-part
invariant-loop-part l = l.enumerations.items ≡ map enumeration_of (take l.part-index l.parts)
