use Rattle.wb_aql_values.specs.Values.{put}
use Rattle.wb_aql_values.specs.Readings.{contents, gather, given}
use Rattle.wb_aql_values.proofs.RunLemmas.{became_left, followed, left_returned, stopped}
use Rattle.wb_aql_values.proofs.lifting.gather.Goals as goal

pub returns-in_err-value-clause-members : goal.returns-in_err-value-clause-members
unfolding gather
returns-in_err-value-clause-members g c =
    let kind = c.args.gathered.now.0 in
    let xs = c.args.gathered.now.1 in
    left_returned _ Unit c.from_residual.result c.in_err-value.field-0.0 xs c.of_scalar.new.reads c.from_residual.ensures.1
    (stopped (λ value. given (put kind xs value)) (contents c.args.model.now) (g.F.OnScalars.on_scalar c.args.function.now c.args.model.now.metamodel c.args.x.now) c.args.reads.now
    c.in_err-value.field-0.0 c.of_scalar.new.reads c.in_err-value.ensures)

pub returns-clause-members : goal.returns-clause-members
unfolding gather
returns-clause-members g c =
    let kind = c.args.gathered.now.0 in
    let xs = c.args.gathered.now.1 in
    became_left (contents c.args.model.now) (put kind xs c.in_ok-value.value) c.put.result c.put.new.self.1 _ c.of_scalar.new.reads c.put.ensures.put
    (followed (λ value. given (put kind xs value)) (contents c.args.model.now) (g.F.OnScalars.on_scalar c.args.function.now c.args.model.now.metamodel c.args.x.now) c.args.reads.now
    c.in_ok-value.value c.of_scalar.new.reads c.in_ok-value.ensures)
