-- What was checked: an expression with known names, or all objects of a class.
use Rattle.std.specs.Prelude.{◌≡◌, ◌<◌, true, ℕ, List, [], length, Option, Some, None, Result, Ok, Err}
use Rattle.wb_metamodel.specs.Metamodel.{Metamodel}
use Rattle.wb_aql_grammar.specs.Tree.{Tree}
use Rattle.wb_aql_check.specs.Names.{knows, first_wrong}
use Rattle.wb_aql_check.specs.declared.checked.Origin.{Origin}
use Rattle.wb_aql_check.specs.declared.checked.Origin.TheVariants as o
use Rattle.wb_aql_check.specs.declared.refusal.CheckRefusal.{CheckRefusal}
use Rattle.wb_aql_check.specs.declared.refusal.CheckRefusal.TheVariants as r

-- its names are known in this scope, by this metamodel
abbrev pub KnownTo : Metamodel → Origin → List (List ℕ) → Type 0
KnownTo mm (o.Expr x) scope = knows mm scope x ≡ true
KnownTo mm (o.Extent class) scope = class < length mm.classes

-- its names are known by some metamodel; the objects of a class need no scope
abbrev pub HasKnownNames : Origin → List (List ℕ) → Type 0
HasKnownNames (o.Expr x) scope = (mm : Metamodel) × (knows mm scope x ≡ true)
HasKnownNames (o.Extent class) scope = scope ≡ []

-- it was checked against this metamodel
abbrev pub IsChecked : Metamodel → Origin × List (List ℕ) → Type 0
IsChecked mm checked = KnownTo mm checked.0 checked.1

-- the value, unless a name is wrong
abbrev pub unless_wrong : {A : Type 0} → Option CheckRefusal → A → Result A CheckRefusal
unless_wrong None v = Ok v
unless_wrong (Some refusal) v = Err refusal

-- the expression with the variables in scope, or the refusal of the first name that is not known
abbrev pub checked : Metamodel → List (List ℕ) → Tree → Result (Origin × List (List ℕ)) CheckRefusal
checked mm scope x = unless_wrong (first_wrong mm scope x) (o.Expr x, scope)

-- the name that a refusal tells; want of memory tells none
abbrev pub refusal_of : CheckRefusal → Option CheckRefusal
refusal_of (r.UnknownVariable name) = Some (r.UnknownVariable name)
refusal_of (r.UnknownFeature name) = Some (r.UnknownFeature name)
refusal_of (r.UnknownService name) = Some (r.UnknownService name)
refusal_of (r.WrongArity name) = Some (r.WrongArity name)
refusal_of (r.UnknownType name) = Some (r.UnknownType name)
refusal_of r.NoMemory = None
