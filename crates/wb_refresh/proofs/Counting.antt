-- Where every unit has an expression, as many are evaluated as there are units.
use Rattle.std.proofs.Common.{◌≡◌, ◌+◌, ℕ, true, List, [], ◌∷◌, length, is_some, refl, ap, ◌∙◌, arith, Option, Some, None, if◌then◌else◌}
use Rattle.std.specs.List.{sum_by}
use Rattle.std.specs.Prelude.{All, IsSome}
use Rattle.std.proofs.lemmas.List.Sums.{sum_by-cons}
use Rattle.std.proofs.lemmas.List.Elements.{All-head, All-tail}
use Rattle.wb_diagram.specs.declared.units.Unit.{Unit as Place}
use Rattle.wb_spec_check.specs.Units.{Expression, expression_of}
use Rattle.wb_looks.specs.Looks.{HasExpression}
use Rattle.wb_refresh.specs.Outcomes.{cost}
use Rattle.wb_refresh.specs.Subjects.{Setting}

-- how often an expression is evaluated: once, if there is one
abbrev once : Option Expression → ℕ
once found = if is_some found then 1 else 0

one_each : (found : Option Expression) → IsSome found → once found ≡ 1
one_each None some = cc
one_each (Some e) some = refl

pub all_counted : (s : Setting) (us : List Place) → All (HasExpression s.spec) us → sum_by (cost s) us ≡ length us
all_counted s [] all = refl
all_counted s (u ∷ us) all =
    let first = one_each (expression_of s.spec u) (All-head (HasExpression s.spec) u us all) in
    let rest = all_counted s us (All-tail (HasExpression s.spec) u us all) in
    let more = sum_by-cons (cost s) u us in
    omega (arith, first, rest, more)
