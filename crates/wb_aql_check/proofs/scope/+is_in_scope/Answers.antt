use Rattle.std.proofs.Common.{◌||◌, sym, ap, ◌∙◌}
use Rattle.std.proofs.lemmas.Bool.{or_left}
use Rattle.wb_aql_check.specs.Names.{is_in}
use Rattle.wb_aql_check.specs.Scopes.{names_of}
use Rattle.wb_aql_check.proofs.ScopeNames.{names_outer, names_inner}
use Rattle.wb_aql_check.proofs.scope.+is_in_scope.Goals as goal

pub returns-then-eq : goal.returns-then-eq
returns-then-eq t c = rw (c.in-Inner.is, names_inner) (sym (or_left _ _ (sym c.eq.ensures ∙ c.if-eq.true)))

pub returns-in-Outer : goal.returns-in-Outer
returns-in-Outer t c = rw (c.in-Outer.is, names_outer) c.is_among.ensures

pub returns-else-eq : goal.returns-else-eq
returns-else-eq t c =
    rw (c.in-Inner.is, names_inner)
    (c.is_in_scope.ensures ∙ sym (ap (λ b. b || is_in (names_of c.in-Inner.outer.now) c.args.name.now) (sym c.eq.ensures ∙ c.if-eq.false)))
