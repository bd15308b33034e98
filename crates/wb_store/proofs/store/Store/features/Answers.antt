use Rattle.std.proofs.Common.{ℕ, ◌<◌, length, sym, ap, ◌∙◌, subst, List, All}
use Rattle.wb_metamodel.specs.Metamodel.{Metamodel, features_of}
use Rattle.wb_metamodel.proofs.Ranges.{features_in_range}
use Rattle.wb_store.proofs.store.Store.features.Goals as goal

pub returns-in-Some-clause-known : goal.returns-in-Some-clause-known
returns-in-Some-clause-known c =
    let same = c.features_of.ensures ∙ ap (λ (metamodel : Metamodel). features_of metamodel c.in-Some.class) c.metamodel.ensures in
    subst (λ (fs : List ℕ). All (λ f. f < length c.args.self.now.metamodel.features) fs) (sym same) (features_in_range c.args.self.now.metamodel c.in-Some.class)
