-- What the metamodel says of a feature.
use Rattle.std.specs.Prelude.{ℕ, Bool, false, Option, None}
use Rattle.std.specs.Option.{option_map_or}
use Rattle.wb_metamodel.specs.Metamodel.{Metamodel, feature_at}
use Rattle.wb_ecore.specs.declared.features.Feature.{Feature}

-- may a slot of it have many values?
abbrev pub is_many : Metamodel → ℕ → Bool
is_many metamodel f = option_map_or (λ (feature : Feature). feature.many) (feature_at metamodel f) false

-- its opposite, none where it has none
abbrev pub opposite : Metamodel → ℕ → Option ℕ
opposite metamodel f = option_map_or (λ (feature : Feature). feature.opposite) (feature_at metamodel f) None
