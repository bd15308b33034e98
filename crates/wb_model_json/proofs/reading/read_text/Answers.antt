use Rattle.std.proofs.Common.{◌≡◌, ◌∙◌, Some, ap, option_map, sym}
use Rattle.serde_json.specs.View.{view}
use Rattle.wb_base.proofs.Answered.{answered_then}
use Rattle.wb_json.specs.Form.{or_wrong}
use Rattle.wb_json.specs.Json.{json_of}
use Rattle.wb_json.specs.Refusals.{code_at, coded}
use Rattle.wb_model_json.specs.ModelText.{model_of}
use Rattle.wb_model_json.specs.declared.refusal.ModelCode.TheVariants.{BadJson, BadShape}
use Rattle.wb_model_json.specs.ModelFile.{read_text}
use Rattle.wb_model_json.proofs.reading.read_text.Goals as goal

pub returns-in-Some : goal.returns-in-Some
unfolding read_text
returns-in-Some c =
    let bytes = c.args.bytes.now in
    let json : json_of bytes ≡ Some (view c.in-Some.value) = sym c.in_ok-value.ensures ∙ ap (option_map view) c.in-Some.is in
    answered_then code_at (coded BadJson (or_wrong (json_of bytes))) (λ d. coded BadShape (model_of d)) (view c.in-Some.value) c.coded.result (ap (λ o. coded BadJson (or_wrong o)) json) (c.coded.ensures (model_of (view c.in-Some.value)) c.read_model_text.ensures)
