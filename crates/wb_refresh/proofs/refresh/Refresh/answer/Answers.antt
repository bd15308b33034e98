use Rattle.std.proofs.Common.{◌≡◌, ◌∙◌, List, Option, Some, None, ap, option_map}
use Rattle.std.specs.Map.{lookup}
use Rattle.wb_diagram.specs.contracts.units.UnitPartialEq.TheImpl.{eq-value}
use Rattle.wb_diagram.specs.declared.units.Unit.{Unit as Place}
use Rattle.wb_aql_eval.specs.declared.env.Outcome.{Outcome}
use Rattle.wb_refresh.specs.Openings.{Kept, answer_in}
use Rattle.wb_refresh.proofs.SameUnitLaws.{looked_up}
use Rattle.wb_refresh.proofs.refresh.Refresh.answer.Goals as goal

answer_found : (entries : List (Place × Outcome)) (kept : Kept) (unit : Place) (found : Option Outcome) → entries ≡ kept.outcomes → found ≡ lookup (eq-value.it unit) entries → option_map (λ (it : Outcome). it.answer) found ≡ answer_in kept unit
answer_found entries kept unit found same is =
    ap (option_map (λ (it : Outcome). it.answer)) (is ∙ (ap (lookup (eq-value.it unit)) same ∙ looked_up unit kept.outcomes))

pub returns-in-Some : goal.returns-in-Some
returns-in-Some g c =
    answer_found c.self.inside.outcomes.entries c.args.self.now c.args.unit.now (Some c.in-Some.outcome.now) (ap (λ (kept : Kept). kept.outcomes) c.self.view_is) c.in-Some.ensures.value

pub returns-in-None : goal.returns-in-None
returns-in-None g c =
    answer_found c.self.inside.outcomes.entries c.args.self.now c.args.unit.now None (ap (λ (kept : Kept). kept.outcomes) c.self.view_is) c.in-None.ensures.value
