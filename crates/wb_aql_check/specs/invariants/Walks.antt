-- What a step of the check tells of the first name that is not known.
use Rattle.std.specs.Prelude.{◌≡◌, ⊤, Option, Some, None, Result, Ok, Err}
use Rattle.wb_aql_check.specs.declared.refusal.CheckRefusal.{CheckRefusal}
use Rattle.wb_aql_check.specs.declared.refusal.CheckRefusal.TheVariants as r

-- a refusal is the first wrong name; want of memory says nothing of the names
abbrev pub IsFirst : CheckRefusal → Option CheckRefusal → Type 0
IsFirst (r.UnknownVariable name) first = first ≡ Some (r.UnknownVariable name)
IsFirst (r.UnknownFeature name) first = first ≡ Some (r.UnknownFeature name)
IsFirst (r.UnknownService name) first = first ≡ Some (r.UnknownService name)
IsFirst (r.WrongArity name) first = first ≡ Some (r.WrongArity name)
IsFirst (r.UnknownType name) first = first ≡ Some (r.UnknownType name)
IsFirst r.NoMemory first = ⊤

-- it passes exactly where no name is wrong, and else refuses the first, unless memory is wanting
abbrev pub Tells : {A : Type 0} → Result A CheckRefusal → Option CheckRefusal → Type 0
Tells (Ok _) first = first ≡ None
Tells (Err refusal) first = IsFirst refusal first
