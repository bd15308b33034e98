-- The one variable of a case.
use Rattle.std.proofs.Common.{ℕ, List, [], ◌∷◌, refl, arith}
use Rattle.std.specs.List.{IsDistinct}
use Rattle.std.proofs.lemmas.List.Elements.{All-cons}
use Rattle.wb_metamodel.specs.Metamodel.{Metamodel}
use Rattle.wb_store.specs.declared.scalars.Scalar.TheVariants.{Object}
use Rattle.wb_aql_values.specs.declared.values.Value.TheVariants.{One}
use Rattle.wb_aql_values.specs.Bounds.{IsBounded}
use Rattle.wb_aql_eval.specs.Outcomes.{Binds}

pub binds_self : (mm : Metamodel) (name : List ℕ) (o : ℕ) → Binds mm (name ∷ []) (record { names = name ∷ []; values = One (Object o) ∷ [] })
unfolding IsDistinct
binds_self mm name o = record {
  names = λ other. refl;
  once = (tt, tt);
  paired = refl;
  bounded = All-cons (IsBounded mm) (One (Object o)) [] refl (λ k d below. absurd (omega (arith, below)));
}
