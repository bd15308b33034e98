use Rattle.std.proofs.Common.{ℕ, List, Err, ap, subst, ◌∙◌}
use Rattle.wb_aql_values.specs.Readings.{contents}
use Rattle.wb_aql_values.specs.Runs.{Gives, run}
use Rattle.wb_aql_values.specs.TextForms.{scalar_form}
use Rattle.wb_aql_values.proofs.RunLemmas.{gives_next, returned, stopped}
use Rattle.wb_aql_services.specs.Texts.{alive, concat, of_form}
use Rattle.wb_aql_services.proofs.by_dot.JoiningOnScalars.of_scalar.Goals as goal

pub returns-in_err-look_whether_alive : goal.returns-in_err-look_whether_alive
unfolding of_form
returns-in_err-look_whether_alive c =
    let halt = c.in_err-look_whether_alive.field-0.0 in
    returned _ c.from_residual.result halt c.look_whether_alive.new.reads c.from_residual.ensures.1
    (stopped (λ _. concat c.args.model.now.metamodel c.args.self.now.value.now (scalar_form c.args.model.now.metamodel c.args.x.now)) (contents c.args.model.now) (alive c.args.x.now) c.args.reads.now halt c.look_whether_alive.new.reads c.in_err-look_whether_alive.ensures)

pub returns : goal.returns
unfolding of_form
returns c =
    let form = c.in_ok-form.ensures ∙ ap (λ mm. scalar_form mm c.args.x.now) c.metamodel.ensures in
    gives_next (λ _. concat c.args.model.now.metamodel c.args.self.now.value.now (scalar_form c.args.model.now.metamodel c.args.x.now)) (contents c.args.model.now) (alive c.args.x.now) c.args.reads.now tt c.look_whether_alive.new.reads c.concat.result c.concat.new.reads c.in_ok-look_whether_alive.ensures
    (subst (λ (bytes : List ℕ). Gives (run (concat c.args.model.now.metamodel c.args.self.now.value.now bytes) (contents c.args.model.now) c.look_whether_alive.new.reads) c.concat.result c.concat.new.reads) form c.concat.ensures)
