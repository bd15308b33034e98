-- The services: how each is called, its name, and what it takes between its parentheses.
use Rattle.std.specs.Prelude.{ℕ, Bool, true, false, ◌&&◌, ◌||◌, List, [], ◌∷◌, Option, codes, find, bytes_eq}
use Rattle.std.specs.Option.{option_map}
use Rattle.wb_aql_grammar.specs.Tree.{Arguments}
use Rattle.wb_aql_grammar.specs.Tree as t
use Rattle.wb_aql_grammar.specs.declared.expr.CallKind.{CallKind}
use Rattle.wb_aql_grammar.specs.declared.expr.CallKind.TheVariants.{Dot, Arrow}
use Rattle.wb_aql_check.specs.declared.services.Service.{Service}
use Rattle.wb_aql_check.specs.declared.services.Service.TheVariants as s
use Rattle.wb_aql_check.specs.declared.services.Iteration.{Iteration}
use Rattle.wb_aql_check.specs.declared.services.Iteration.TheVariants as i
use Rattle.wb_aql_check.specs.declared.services.Callee.{Callee}
use Rattle.wb_aql_check.specs.declared.services.Callee.TheVariants as c
use Rattle.wb_aql_check.specs.declared.services.Parameters.{Parameters}
use Rattle.wb_aql_check.specs.declared.services.Parameters.TheVariants as p

-- a service: how it is called, its name, what the name stands for, and what it takes
pub record Row : Type 0 where
  pub kind : CallKind
  pub name : List ℕ
  pub callee : Callee
  pub parameters : Parameters

abbrev pub dot : List ℕ → Service → Parameters → Row
dot name service parameters = record { kind = Dot; name = name; callee = c.Service service; parameters = parameters }

abbrev pub arrow : List ℕ → Service → Parameters → Row
arrow name service parameters = record { kind = Arrow; name = name; callee = c.Service service; parameters = parameters }

abbrev pub each : List ℕ → Iteration → Row
each name iteration = record { kind = Arrow; name = name; callee = c.Iteration iteration; parameters = p.Lambda }

unfoldable pub services : List Row
services =
    dot (codes "eContainer") s.EContainer p.MaybeType
    ∷ dot (codes "eContents") s.EContents p.MaybeType
    ∷ dot (codes "eAllContents") s.EAllContents p.MaybeType
    ∷ dot (codes "eInverse") s.EInverse p.Nothing
    ∷ dot (codes "ancestors") s.Ancestors p.MaybeType
    ∷ dot (codes "siblings") s.Siblings p.Nothing
    ∷ dot (codes "precedingSiblings") s.PrecedingSiblings p.Nothing
    ∷ dot (codes "followingSiblings") s.FollowingSiblings p.Nothing
    ∷ dot (codes "oclIsKindOf") s.OclIsKindOf p.Type
    ∷ dot (codes "oclIsTypeOf") s.OclIsTypeOf p.Type
    ∷ dot (codes "oclAsType") s.OclAsType p.Type
    ∷ dot (codes "concat") s.Concat p.Value
    ∷ dot (codes "startsWith") s.StartsWith p.Value
    ∷ each (codes "select") i.Select
    ∷ each (codes "reject") i.Reject
    ∷ each (codes "collect") i.Collect
    ∷ each (codes "exists") i.Exists
    ∷ each (codes "forAll") i.ForAll
    ∷ each (codes "any") i.Any
    ∷ arrow (codes "filter") s.Filter p.Type
    ∷ arrow (codes "first") s.First p.Nothing
    ∷ arrow (codes "last") s.Last p.Nothing
    ∷ arrow (codes "at") s.At p.Value
    ∷ arrow (codes "size") s.Size p.Nothing
    ∷ arrow (codes "isEmpty") s.IsEmpty p.Nothing
    ∷ arrow (codes "notEmpty") s.NotEmpty p.Nothing
    ∷ arrow (codes "includes") s.Includes p.Value
    ∷ arrow (codes "excludes") s.Excludes p.Value
    ∷ arrow (codes "including") s.Including p.Value
    ∷ arrow (codes "excluding") s.Excluding p.Value
    ∷ arrow (codes "asSequence") s.AsSequence p.Nothing
    ∷ arrow (codes "asOrderedSet") s.AsOrderedSet p.Nothing
    ∷ []

abbrev pub same_kind : CallKind → CallKind → Bool
same_kind Dot Dot = true
same_kind Arrow Arrow = true
same_kind Dot Arrow = false
same_kind Arrow Dot = false

-- is this service called so, by this name?
abbrev pub is_named : CallKind → List ℕ → Row → Bool
is_named kind name row = same_kind row.kind kind && bytes_eq row.name name

-- the service that is called so by this name, and what it takes
unfoldable pub service_named : CallKind → List ℕ → Option (Callee × Parameters)
service_named kind name = option_map (λ (row : Row). (row.callee, row.parameters)) (find (is_named kind name) services)

-- no argument; one type; one expression; one lambda
abbrev pub is_nothing : Arguments → Bool
is_nothing t.no_arguments = true
is_nothing (t.lambda v x xs) = false
is_nothing (t.type_named p c xs) = false
is_nothing (t.expression x xs) = false

abbrev pub is_type : Arguments → Bool
is_type t.no_arguments = false
is_type (t.lambda v x xs) = false
is_type (t.type_named p c xs) = is_nothing xs
is_type (t.expression x xs) = false

abbrev pub is_value : Arguments → Bool
is_value t.no_arguments = false
is_value (t.lambda v x xs) = false
is_value (t.type_named p c xs) = false
is_value (t.expression x xs) = is_nothing xs

abbrev pub is_lambda : Arguments → Bool
is_lambda t.no_arguments = false
is_lambda (t.lambda v x xs) = is_nothing xs
is_lambda (t.type_named p c xs) = false
is_lambda (t.expression x xs) = false

-- are these arguments what the service takes?
abbrev pub fits : Parameters → Arguments → Bool
fits p.Nothing xs = is_nothing xs
fits p.MaybeType xs = is_nothing xs || is_type xs
fits p.Type xs = is_type xs
fits p.Value xs = is_value xs
fits p.Lambda xs = is_lambda xs
