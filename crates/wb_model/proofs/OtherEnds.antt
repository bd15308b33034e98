-- The other ends of values that leave, one by one.
use Rattle.std.proofs.Common.{◌≡◌, ℕ, List, drop}
use Rattle.std.specs.List.{flat_map}
use Rattle.wb_metamodel.specs.Metamodel.{Metamodel}
use Rattle.wb_store.specs.declared.scalars.Scalar.{Scalar}
use Rattle.wb_store.specs.Contents.{Contents}
use Rattle.wb_store.specs.Relinking.{Link, link, other_end}
use Rattle.wb_store.specs.LinkSteps.{each_left}

-- the links from the other ends of the values of a slot
abbrev pub ends_of : Metamodel → ℕ → ℕ → List Scalar → List Link
ends_of metamodel o f values = flat_map (λ v. other_end metamodel (link o f v)) values

-- the other ends of the first values have left, and those of the others are to leave
pub record EndsLeave (old now : Contents) (o f done : ℕ) (values : List Scalar) : Type 0 where
  pub same_metamodel : now.metamodel ≡ old.metamodel
  pub rest : each_left (ends_of old.metamodel o f (drop done values)) now ≡ each_left (ends_of old.metamodel o f values) old
