use Rattle.std.proofs.Common.{◌∙◌, Option, ℕ, Result, Ok, ap, sym}
use Rattle.wb_session.specs.declared.refusal.Refusal.{Refusal}
use Rattle.wb_session.specs.States.{State}
use Rattle.wb_session.specs.Steps.{Stepped}
use Rattle.wb_session.proofs.Stepping.{answers_refusal}
use Rattle.wb_session.proofs.session.Session.command.Goals as goal

pub returns-in_err-planned : goal.returns-in_err-planned
returns-in_err-planned g c = answers_refusal _ c.from_residual.result c.in_err-planned.field-0.0 c.args.self.now c.from_residual.ensures.1 c.in_err-planned.ensures.given

pub returns : goal.returns
returns g c = (
  c.in_ok-planned.ensures.given
      ∙ (ap (λ (z : State). let x : Result Stepped Refusal = Ok (record { state = z; created = c.in_ok-planned.planned.created }) in x) (sym c.accept.ensures.state)
      ∙ ap (λ (made : Option ℕ). let x : Result Stepped Refusal = Ok (record { state = c.accept.new.self; created = made }) in x) (sym c.accept.ensures.created)),
  c.accept.ensures.revision,
)
