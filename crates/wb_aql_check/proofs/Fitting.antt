-- Two arguments are none that a service takes.
use Rattle.std.proofs.Common.{◌≡◌, ◌≤◌, false, List, [], ◌∷◌, length, refl, arith}
use Rattle.wb_aql_grammar.specs.View.{arguments_in}
use Rattle.wb_aql_grammar.specs.declared.expr.Node.{Node}
use Rattle.wb_aql_grammar.specs.declared.expr.Argument.{Argument}
use Rattle.wb_aql_grammar.specs.declared.expr.Argument.TheVariants as a
use Rattle.wb_aql_check.specs.Services.{fits}
use Rattle.wb_aql_check.specs.declared.services.Parameters.{Parameters}
use Rattle.wb_aql_check.specs.declared.services.Parameters.TheVariants as p

pub two_do_not_fit : (parameters : Parameters) (e f : Argument Node) (es : List (Argument Node)) → fits parameters (arguments_in (e ∷ f ∷ es)) ≡ false
two_do_not_fit p.Nothing (a.Lambda v x) f es = refl
two_do_not_fit p.Nothing (a.Type q c) f es = refl
two_do_not_fit p.Nothing (a.Expression x) f es = refl
two_do_not_fit p.MaybeType (a.Lambda v x) f es = refl
two_do_not_fit p.MaybeType (a.Type q c) (a.Lambda w z) es = refl
two_do_not_fit p.MaybeType (a.Type q c) (a.Type r d) es = refl
two_do_not_fit p.MaybeType (a.Type q c) (a.Expression z) es = refl
two_do_not_fit p.MaybeType (a.Expression x) f es = refl
two_do_not_fit p.Type (a.Lambda v x) f es = refl
two_do_not_fit p.Type (a.Type q c) (a.Lambda w z) es = refl
two_do_not_fit p.Type (a.Type q c) (a.Type r d) es = refl
two_do_not_fit p.Type (a.Type q c) (a.Expression z) es = refl
two_do_not_fit p.Type (a.Expression x) f es = refl
two_do_not_fit p.Value (a.Lambda v x) f es = refl
two_do_not_fit p.Value (a.Type q c) f es = refl
two_do_not_fit p.Value (a.Expression x) (a.Lambda w z) es = refl
two_do_not_fit p.Value (a.Expression x) (a.Type r d) es = refl
two_do_not_fit p.Value (a.Expression x) (a.Expression z) es = refl
two_do_not_fit p.Lambda (a.Lambda v x) (a.Lambda w z) es = refl
two_do_not_fit p.Lambda (a.Lambda v x) (a.Type r d) es = refl
two_do_not_fit p.Lambda (a.Lambda v x) (a.Expression z) es = refl
two_do_not_fit p.Lambda (a.Type q c) f es = refl
two_do_not_fit p.Lambda (a.Expression x) f es = refl

pub many_do_not_fit : (parameters : Parameters) (es : List (Argument Node)) → 2 ≤ length es → fits parameters (arguments_in es) ≡ false
many_do_not_fit parameters [] many = absurd (omega (arith, many))
many_do_not_fit parameters (e ∷ []) many = absurd (omega (arith, many))
many_do_not_fit parameters (e ∷ f ∷ es) many = two_do_not_fit parameters e f es
