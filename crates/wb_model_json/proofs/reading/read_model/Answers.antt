use Rattle.std.proofs.lemmas.Result.{err_from_is_err_and}
use Rattle.wb_base.specs.Results.{◌>>=◌}
use Rattle.wb_base.proofs.Answered.{answered_then}
use Rattle.wb_json.specs.Refusals.{code_at}
use Rattle.wb_model_json.specs.declared.model_text.ModelText.{ModelText}
use Rattle.wb_model_json.specs.ModelFile.{model, read_text, checked_parts, made}
use Rattle.wb_model_json.proofs.Answering.{refused}
use Rattle.wb_model_json.proofs.reading.read_model.Goals as goal

pub returns-in_err-text-clause-read : goal.returns-in_err-text-clause-read
unfolding model
returns-in_err-text-clause-read c =
    let p = err_from_is_err_and c.from_residual.result c.from_residual.ensures.1 in
    refused c.from_residual.result p.0 c.in_err-text.field-0.0 (read_text c.args.bytes.now) (λ (text : ModelText). checked_parts c.args.metamodel text >>= made c.args.metamodel text) p.1 p.2 c.in_err-text.ensures

pub returns-in_err-parts-clause-read : goal.returns-in_err-parts-clause-read
unfolding model
returns-in_err-parts-clause-read c =
    let r = c.from_residual-in_err-parts in
    let p = err_from_is_err_and r.result r.ensures.1 in
    answered_then code_at (read_text c.args.bytes.now) (λ (text : ModelText). checked_parts c.args.metamodel text >>= made c.args.metamodel text) c.in_ok-text.text r.result c.in_ok-text.ensures
    (refused r.result p.0 c.in_err-parts.field-0.0 (checked_parts c.args.metamodel c.in_ok-text.text) (made c.args.metamodel c.in_ok-text.text) p.1 p.2 c.in_err-parts.ensures)

pub returns-clause-read : goal.returns-clause-read
unfolding model
returns-clause-read c =
    answered_then code_at (read_text c.args.bytes.now) (λ (text : ModelText). checked_parts c.args.metamodel text >>= made c.args.metamodel text) c.in_ok-text.text c.made.result c.in_ok-text.ensures
    (answered_then code_at (checked_parts c.args.metamodel c.in_ok-text.text) (made c.args.metamodel c.in_ok-text.text) c.in_ok-parts.parts c.made.result c.in_ok-parts.ensures c.made.ensures.made)
