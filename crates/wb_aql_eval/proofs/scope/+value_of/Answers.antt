use Rattle.std.proofs.Common.{◌≡◌, sym, ap, ◌∙◌, if◌then◌else◌}
use Rattle.wb_aql_eval.specs.Scopes.{values_of}
use Rattle.wb_aql_eval.proofs.Scopes.{values_outer, values_inner}
use Rattle.wb_aql_eval.proofs.scope.+value_of.Goals as goal

pub returns-then-eq : goal.returns-then-eq
returns-then-eq t c =
    let e : values_of c.args.scope.now c.args.name.now ≡ c.in-Inner.value.now =
    ap (λ s. values_of s c.args.name.now) c.in-Inner.is ∙ (ap (λ values. values c.args.name.now) (values_inner _ _ _)
    ∙ ap (λ b. if b then c.in-Inner.value.now else values_of c.in-Inner.outer.now c.args.name.now) (sym c.eq.ensures ∙ c.if-eq.true)) in
    rw e c.copy.ensures

pub returns-in-Outer : goal.returns-in-Outer
returns-in-Outer t c = rw (c.in-Outer.is, values_outer) c.value_in.ensures

pub returns-else-eq : goal.returns-else-eq
returns-else-eq t c =
    let e : values_of c.args.scope.now c.args.name.now ≡ values_of c.in-Inner.outer.now c.args.name.now =
    ap (λ s. values_of s c.args.name.now) c.in-Inner.is ∙ (ap (λ values. values c.args.name.now) (values_inner _ _ _)
    ∙ ap (λ b. if b then c.in-Inner.value.now else values_of c.in-Inner.outer.now c.args.name.now) (sym c.eq.ensures ∙ c.if-eq.false)) in
    rw e c.value_of.ensures
