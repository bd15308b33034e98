-- What the scope inside an operation is kept as.
use Rattle.std.specs.Prelude.{ℕ, List}
use Rattle.wb_spec_check.specs.declared.scopes.InnerScope.{InnerScope}
use Rattle.wb_spec_check.specs.declared.scopes.InnerScope.TheVariants.{Same, More}

-- the variables in scope
abbrev pub variables_of : InnerScope → List (List ℕ)
variables_of (Same variables) = variables.now
variables_of (More variables) = variables
