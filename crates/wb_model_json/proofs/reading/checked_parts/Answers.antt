use Rattle.std.proofs.Common.{subst}
use Rattle.wb_base.specs.Results.{◌>>=◌}
use Rattle.wb_base.proofs.Answered.{answered_then}
use Rattle.wb_json.specs.Form.{Gives}
use Rattle.wb_json.specs.Refusals.{code_at, coded}
use Rattle.wb_model_json.specs.declared.refusal.ModelCode.TheVariants.{TooMany, DuplicateObject, UnknownName}
use Rattle.wb_model_json.specs.ModelFile.{checked_parts, few, unrepeated, parts_for}
use Rattle.wb_model_json.proofs.reading.checked_parts.Goals as goal

pub returns : goal.returns
unfolding checked_parts
returns c =
    let mm = c.args.metamodel.now in
    let texts = c.args.text.now.objects in
    let same = c.as_slice-objects.ensures in
    answered_then code_at (coded TooMany (few texts)) (λ _. coded DuplicateObject (unrepeated texts) >>= (λ _. coded UnknownName (parts_for mm texts))) tt c.coded-3.result (c.in_ok-coded.ensures (few texts) (subst (λ texts. Gives c.few.result (few texts)) same c.few.ensures))
    (answered_then code_at (coded DuplicateObject (unrepeated texts)) (λ _. coded UnknownName (parts_for mm texts)) tt c.coded-3.result (c.in_ok-coded-2.ensures (unrepeated texts) (subst (λ texts. Gives c.unrepeated.result (unrepeated texts)) same c.unrepeated.ensures)) (c.coded-3.ensures (parts_for mm texts) (subst (λ texts. Gives c.parts_for.result (parts_for mm texts)) same c.parts_for.ensures)))
