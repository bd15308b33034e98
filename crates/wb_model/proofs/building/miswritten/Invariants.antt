use Rattle.std.proofs.Common.{◌≡◌, ◌++◌, drop}
use Rattle.wb_validity.specs.Broken.{miswritten}
use Rattle.wb_model.proofs.building.miswritten.Given as goal

abbrev pub invariant-loop-part : goal.invariant-loop-part
invariant-loop-part l = l.wrong.items ++ miswritten l.metamodel (drop l.part-index l.parts) ≡ miswritten l.metamodel l.parts
