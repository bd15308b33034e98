use Rattle.std.proofs.Common.{◌≡◌, ℕ, map, take}
use Rattle.wb_store.specs.declared.scalars.Scalar.TheVariants.{Object}
use Rattle.wb_aql_services.proofs.sidewards.sources_of.Given as goal

abbrev pub invariant-loop-source : goal.invariant-loop-source
invariant-loop-source l = l.sources ≡ map (λ (pair : ℕ × ℕ). Object pair.0) (take l.source-index l.pairs)
