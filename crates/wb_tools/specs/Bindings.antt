-- The variables where an operation stands, as they are bound.
use Rattle.std.specs.Prelude.{ℕ, List, [], ◌∷◌, ◌++◌, codes, if◌then◌else◌}
use Rattle.wb_base.specs.Names.{same_name}
use Rattle.wb_store.specs.declared.scalars.Scalar.{Scalar}
use Rattle.wb_store.specs.declared.scalars.Scalar.TheVariants.{Int, Bool as Boolean, Text, Literal, Object}
use Rattle.wb_aql_values.specs.declared.values.Value.{Value}
use Rattle.wb_aql_values.specs.declared.values.Value.TheVariants.{One}
use Rattle.wb_aql_eval.specs.declared.env.Env.{Env}

abbrev pub no_variables : Env
no_variables = record { names = []; values = [] }

-- one variable before others
abbrev pub with_variable : List ℕ → Value → Env → Env
with_variable name v env = record { names = name ∷ env.names; values = v ∷ env.values }

-- the variables of the one, and then those of the other
abbrev pub joined : Env → Env → Env
joined first second = record { names = first.names ++ second.names; values = first.values ++ second.values }

-- the variables that have another name
unfoldable pub others : List ℕ → List (List ℕ) → List Value → Env
others name [] vs = no_variables
others name (n ∷ ns) [] = no_variables
others name (n ∷ ns) (v ∷ vs) = if same_name name n then others name ns vs else with_variable n v (others name ns vs)

-- one more variable; it hides one of the same name
unfoldable pub bound : List ℕ → Value → Env → Env
bound name v env = with_variable name v (others name env.names env.values)

-- `self` is the context object
abbrev pub in_context : ℕ → Env → Env
in_context o env = bound (codes "self") (One (Object o)) env

-- a variable that an operation binds; one named `self` hides nothing
abbrev pub named : List ℕ → Scalar → Env → Env
named name x env = if same_name name (codes "self") then env else bound name (One x) env

-- the variables inside an operation that binds one, where an object is the context
abbrev pub inside_with : List ℕ → Scalar → ℕ → Env → Env
inside_with name x o env = named name x (in_context o env)

-- the context of a turn: the item where it is an object, and else the context around
abbrev pub context_with : Scalar → ℕ → ℕ
context_with (Object p) o = p
context_with (Int n) o = o
context_with (Boolean b) o = o
context_with (Text bytes) o = o
context_with (Literal e l) o = o
