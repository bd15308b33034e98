-- The variables that a unit's expression is evaluated with.
use Rattle.std.specs.Prelude.{ℕ, ◌-◌, List, [], ◌∷◌, ◌++◌, length, take, fold, codes, Option, Some, None, if◌then◌else◌}
use Rattle.std.specs.Option.{option_map_or}
use Rattle.std.specs.List.{list_any}
use Rattle.wb_base.specs.Names.{same_name}
use Rattle.wb_store.specs.declared.scalars.Scalar.TheVariants.{Object}
use Rattle.wb_aql_values.specs.declared.values.Value.TheVariants.{One}
use Rattle.wb_aql_eval.specs.declared.env.Env.{Env}
use Rattle.wb_diagram.specs.Keys.{semantic_pair}
use Rattle.wb_diagram.specs.declared.keys.AnyKey.{AnyKey}
use Rattle.wb_diagram.specs.declared.keys.AnyKey.TheVariants as key
use Rattle.wb_diagram.specs.declared.keys.Key.{Key}
use Rattle.wb_diagram.specs.declared.keys.Pair.{Pair}
use Rattle.wb_diagram.specs.declared.units.Unit.{Unit}
use Rattle.wb_diagram.specs.declared.units.Unit.TheVariants as u
use Rattle.wb_spec_check.specs.Units.{last_pair}

-- ---- what a unit is about

-- the pairs down to a node, or the own pair of an edge
abbrev pub pairs_of_key : AnyKey → List Pair
pairs_of_key (key.Node it) = it.pairs
pairs_of_key (key.Edge it) = semantic_pair it ∷ []

-- the pairs down to the parent, which are none under the diagram
abbrev pub pairs_of_parent : Option Key → List Pair
pairs_of_parent None = []
pairs_of_parent (Some parent) = parent.pairs

-- the pairs down to what a unit is about: to the parent of candidates, to a node, or the one pair that it names
unfoldable pub pairs_of : Unit → List Pair
pairs_of (u.Candidates m parent) = pairs_of_parent parent
pairs_of (u.Precondition it) = it.pairs
pairs_of (u.EdgeCandidates m) = []
pairs_of (u.EdgePrecondition pair) = pair ∷ []
pairs_of (u.Source pair) = pair ∷ []
pairs_of (u.Target pair) = pair ∷ []
pairs_of (u.Style style it) = pairs_of_key it
pairs_of (u.Label style it) = pairs_of_key it
pairs_of (u.Filter f it) = pairs_of_key it

-- the object of the last of these pairs, or the root element where there is none
abbrev pub last_object : (root : ℕ) → List Pair → ℕ
last_object root pairs = option_map_or (λ (pair : Pair). pair.object) (last_pair pairs) root

abbrev pub front : List Pair → List Pair
front pairs = take (length pairs - 1) pairs

-- `self`: the object that a unit is about, or the root element
unfoldable pub self_of : (root : ℕ) → Unit → ℕ
self_of root unit = last_object root (pairs_of unit)

-- `container`: the object of the parent, or the root element where that is the diagram
unfoldable pub container_of : (root : ℕ) → Unit → ℕ
container_of root unit = last_object root (front (pairs_of unit))

-- ---- the environment

-- a variable, bound to an object behind others, if the scope holds it
abbrev pub with_variable : (scope : List (List ℕ)) → Env → (List ℕ × ℕ) → Env
with_variable scope env variable =
    if list_any (same_name variable.0) scope
    then record { names = env.names ++ variable.0 ∷ []; values = env.values ++ One (Object variable.1) ∷ [] }
    else env

-- `self` and `container`, as far as the scope holds them
unfoldable pub environment_of : (root : ℕ) → Unit → (scope : List (List ℕ)) → Env
environment_of root unit scope =
    fold (with_variable scope) (record { names = []; values = [] })
    ((codes "self", self_of root unit) ∷ (codes "container", container_of root unit) ∷ [])
